-- What is read of clap's matches.
use Rattle.std.proofs.Common.{◌≡◌, Bool, List, [], Option, Some, None, refl, ap, ◌∙◌, map, codes}
use Rattle.std.specs.Prelude.{option_map, unwrap_or}
use Rattle.std.specs.Borrow.{Bor}
use Rattle.clap.specs.Words.{Row, Text, first_value, matched_of, raw_values, rows_of}
use Rattle.clap.specs.declared.parser.matches.Found.{Found}
use Rattle.clap.proofs.WalkLemmas.{first_value-rows, raw_values-rows}
use Rattle.command_line.specs.Given.{Given, given_in, has_flag, text_of, texts_of}

abbrev pub the_given : Text → Text → List Text → Text → Text → Text → Bool → Given
the_given mode place sessions user input journal access =
    record { mode = mode; place = place; sessions = sessions; user = user; input = input; journal = journal; access = access }

pub text_is : (f : Found) (id : Text) (o : Option (Bor Text)) (d : Bor Text) → option_map (λ s. s.now) o ≡ first_value f id → d.now ≡ []
    → (unwrap_or o d).now ≡ text_of id (rows_of f)
text_is f id o d is none = shape o ∙ ap (λ x. unwrap_or x []) (is ∙ first_value-rows f id)
  where
    shape : (p : Option (Bor Text)) → (unwrap_or p d).now ≡ unwrap_or (option_map (λ s. s.now) p) []
    shape None = none
    shape (Some x) = refl

pub texts_are : (f : Found) (id : Text) (o : Option (Bor (List (Bor Text)))) → option_map (λ s. map (λ v. v.now) s.now) o ≡ option_map raw_values (matched_of f id)
    → unwrap_or (option_map (λ s. map (λ v. v.now) s.now) o) [] ≡ texts_of id (rows_of f)
texts_are f id o is = ap (λ x. unwrap_or x []) (is ∙ raw_values-rows f id)

pub given_is : (rows : List Row) (mode place user input journal : Text) (sessions : List Text) (access : Bool) → mode ≡ text_of (codes "mode") rows → place ≡ text_of (codes "place") rows
    → sessions ≡ texts_of (codes "session") rows → user ≡ text_of (codes "user") rows → input ≡ text_of (codes "input") rows
    → journal ≡ text_of (codes "journal-limit") rows → access ≡ has_flag (codes "access") rows
    → the_given mode place sessions user input journal access ≡ given_in rows
given_is rows mode place user input journal sessions access a b c d e f g = rw (a, b, c, d, e, f, g) refl
