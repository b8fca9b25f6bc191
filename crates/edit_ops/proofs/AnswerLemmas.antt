-- What a change answers, from what its parts make.
use Rattle.std.proofs.Common.{inr, List, Option, Result, Err}
use Rattle.cfg_base.specs.declared.path.Step.{Step}
use Rattle.cfg_tree.specs.Statements.{Statements}
use Rattle.commands.specs.declared.command.Op.{Op}
use Rattle.edit_ops.specs.declared.fault.EditFault.{EditFault}
use Rattle.edit_ops.specs.declared.fault.EditFault.TheVariants.{Unknown, BadValue, Incomplete, Extra, NotNamed, NotOrdered, NotThere, AlreadyThere, Protected, TooMany, NoMemory}
use Rattle.edit_ops.specs.declared.subject.Subject.{Subject}
use Rattle.edit_ops.specs.Change.{changed}
use Rattle.edit_ops.specs.Block.{IsSpared}
use Rattle.edit_ops.specs.Answer.{NamesSubject, IsChangeFault, IsEditFault}
use Rattle.edit_ops.specs.Made.{IsPartMade}

module _ (m : Statements) (level : List Step) (op : Op) (subject : Subject) (asks : NamesSubject level op subject) where
  abbrev Made : Result (Option Statements) EditFault → Type 0
  Made result = IsPartMade m (changed m op subject) (IsSpared op subject.target.path) result

  cause : (fault : EditFault) → Made (Err fault) → IsChangeFault m op subject fault
  cause (Protected p) (next, made, blocked) = record { next = next; made = made; blocked = blocked }
  cause TooMany (next, made, free, many) = record { next = next; made = made; free = free; many = many }
  cause NoMemory e = tt
  cause (Unknown p) e = e
  cause (BadValue p) e = e
  cause (Incomplete p) e = e
  cause (Extra p) e = e
  cause (NotNamed p) e = e
  cause (NotOrdered p) e = e
  cause (NotThere p) e = e
  cause (AlreadyThere p) e = e

  pub refused : (fault : EditFault) → Made (Err fault) → IsEditFault m level op fault
  refused fault e = inr record { subject = subject; asks = asks; cause = cause fault e }
