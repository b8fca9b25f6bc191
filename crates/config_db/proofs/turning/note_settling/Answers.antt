use Rattle.config_db.proofs.turning.note_settling.Goals as goal

pub returns-clause-state : goal.returns-clause-state
returns-clause-state c = record { plan = c.settling-prepared.result; prepared = c.settling-prepared.ensures; is = c.note.ensures.state }
