use Rattle.service.proofs.serving.serve_asked.Given as goal

abbrev pub ghosts-serve_under : goal.ghosts-serve_under
ghosts-serve_under g a = record { book = a.front.book }
