use Rattle.active_snapshot.proofs.tests.readers_see_what_is_kept.Given as goal

abbrev pub ghosts-run : goal.ghosts-run
ghosts-run g a = record { book = a.front.book }
