use Rattle.std.proofs.Common.{rules}
use Rattle.cfg_base.specs.declared.kind.Kind.TheVariants.{IfUnit}
use Rattle.cfg_values.specs.Interface.{UnitOf}
use Rattle.cfg_values.specs.Spelling.{IsSpelling}
use Rattle.cfg_values.proofs.interface.read_units.Goals as goal

pub returns-in_err-spell_unit-in-Some : goal.returns-in_err-spell_unit-in-Some
returns-in_err-spell_unit-in-Some c =
    let spelling : IsSpelling IfUnit c.args.bytes.now = record { value = UnitOf c.in-Some.name.now c.in-Some.unit; spells = c.in-Some.ensures.some } in
    search (rules, spelling)

pub returns-in_ok-spell_unit-in-Some : goal.returns-in_ok-spell_unit-in-Some
returns-in_ok-spell_unit-in-Some c = record {
  value = UnitOf c.in-Some.name.now c.in-Some.unit;
  spells = c.in-Some.ensures.some;
  canonical_is = c.in_ok-spell_unit-in-Some.ensures;
}
