use Rattle.std.proofs.Common.{◌<◌, length, sym, rules}
use Rattle.flood.proofs.Places.{noted}
use Rattle.flood.proofs.notes.note.Goals as goal

pub returns-in-Some : goal.returns-in-Some
returns-in-Some g c =
    let n = noted c.args.place c.in-Some.x c.requires (sym c.in-Some.ensures) in
    record { noted = n.0; kept = n.1 }
