use Rattle.std.proofs.Common.{◌≡◌, take}
use Rattle.session_threads.specs.Results.{users_of_ends}
use Rattle.thread_cases.proofs.runs.ends_of.Given as goal

-- the ends so far are of the first users
abbrev pub invariant-loop-user : goal.invariant-loop-user
invariant-loop-user g l = users_of_ends l.ends.items ≡ take l.user-index l.users
