use Rattle.database_scripts.proofs.script.answer_piece.Given as goal

abbrev pub ghosts-answer_by : goal.ghosts-answer_by
ghosts-answer_by g a = record { book = a.front.book }
