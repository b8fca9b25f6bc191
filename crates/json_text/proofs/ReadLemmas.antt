-- What is read of a text's value.
use Rattle.std.proofs.Common.{◌≡◌, ◌≤◌, ◌<◌, ℕ, List}
use Rattle.cfg_tree.specs.Statements.{Statements, size_of}
use Rattle.cfg_tree.specs.declared.limit.TheConstants.{MAX_STATEMENTS}
use Rattle.serde_json.specs.Data.{Data}
use Rattle.json_text.specs.declared.fault.JsonFault.{JsonFault}
use Rattle.json_text.specs.declared.fault.JsonFault.TheVariants.{NotJson, Unknown, BadValue, Form, TooMany}
use Rattle.json_text.specs.declared.fault.ReadFault.{ReadFault}
use Rattle.json_text.specs.declared.fault.ReadFault.TheVariants.{Json, NoMemory}
use Rattle.json_text.specs.Checking.{HasFault}
use Rattle.json_text.specs.Faults.{IsFirstFault}
use Rattle.json_text.specs.Reading.{IsJson, IsReadAs, SaysTooMany, IsTextFault, IsRefused}
use Rattle.json_text.specs.Said.{Says}
use Rattle.json_text.proofs.PathLemmas.{has_path}

fault_of : (text : List ℕ) (d : Data) (f : JsonFault) → IsJson text d → IsFirstFault d f → IsTextFault text f
fault_of text d (Unknown path) j x = record { value = d; json = j; first = x }
fault_of text d (BadValue path) j x = record { value = d; json = j; first = x }
fault_of text d (Form path) j x = record { value = d; json = j; first = x }
fault_of text d NotJson j x = absurd (has_path d NotJson x)
fault_of text d TooMany j x = absurd (has_path d TooMany x)

pub refused_by : (text : List ℕ) (d : Data) (r : ReadFault) → IsJson text d → HasFault (IsFirstFault d) r → IsRefused text r
refused_by text d (Json f) j x = fault_of text d f j x
refused_by text d NoMemory j x = tt

pub read_as : (text : List ℕ) (d : Data) (m : Statements) → IsJson text d → Says d m → size_of m ≤ MAX_STATEMENTS → IsReadAs text m
read_as text d m j s few = record { value = d; json = j; says = s; few = few }

pub too_many : (text : List ℕ) (d : Data) → IsJson text d → ((m : Statements) × Says d m) → ((m : Statements) → Says d m → MAX_STATEMENTS < size_of m) → SaysTooMany text
too_many text d j s many = record { value = d; json = j; statements = s.0; says = s.1; many = many s.0 s.1 }
