use Rattle.std.proofs.Common.{◌≡◌, drop}
use Rattle.cfg_schema.specs.Place.{place_from, place_of}
use Rattle.cfg_schema.proofs.place.Place.of.Given as goal

abbrev pub invariant-loop-step : goal.invariant-loop-step
invariant-loop-step l = place_from (drop l.step-index l.path) l.here ≡ place_of l.path
