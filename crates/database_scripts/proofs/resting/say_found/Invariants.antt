use Rattle.database_scripts.proofs.resting.say_found.Given as goal

abbrev pub ghosts-say_started : goal.ghosts-say_started
ghosts-say_started g a = record { book = a.front.book }
