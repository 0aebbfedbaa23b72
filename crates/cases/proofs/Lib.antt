mod Tests
mod Tested
