use Rattle.std.proofs.Common.{◌-◌, ◌/◌, sym, subst, arith}
use Rattle.flood.specs.Heaps.{contents}
use Rattle.flood.specs.Places.{HalfPlaced}
use Rattle.flood.proofs.Places.{kept_none, kept_both, single_long, path_noted, path_next, path_over}
use Rattle.flood.proofs.notes.note_path.Goals as goal

pub loop-place-preserved : goal.loop-place-preserved
loop-place-preserved g c =
    let q = contents c.args.heap.now in
    let l = c.loop-place in
    let head = c.path-path.result.head in (
      kept_both l.invariant.0 c.note-in-loop-place.ensures.kept,
      path_noted l.origins c.note-in-loop-place.new.origins q ((l.place - 1) / 2) head (path_next l.origins q l.place head l.invariant.1) c.note-in-loop-place.ensures.noted,
    )

pub returns : goal.returns
returns g c =
    let q = contents c.args.heap.now in
    let l = c.loop-place in
    record { placed = path_over l.origins q l.place c.path-path.result.head (omega arith) l.invariant.1; kept = kept_both c.note.ensures.kept l.invariant.0 }
