-- What lines ask, by example, at least one of each form. Junos OS CLI User Guide, on load set and on the commands that change statements.
use Prim.Native.String.{String}
use Rattle.std.specs.Prelude.{◌≡◌, ℕ, List, [], ◌∷◌, ◌++◌, map, codes, true, false, None}
use Rattle.commands.specs.declared.command.Op.{Op}
use Rattle.commands.specs.declared.command.Op.TheVariants as op
use Rattle.cfg_lex.specs.declared.token.Token.{Token}
use Rattle.cfg_lex.specs.declared.token.TokenKind.TheVariants as kind
use Rattle.cfg_lex.specs.Lexed.{Lexed, lexed}
use Rattle.cfg_lex.specs.Tokens.{IsCut}
use Rattle.set_text.specs.Form.{parts_in}
use Rattle.set_text.specs.Lines.{AsksChange}

-- the parts of a line, and what it asks
pub record Example : Type 0 where
  pub parts : List Lexed
  pub change : Op

abbrev pub example : List Lexed → Op → Example
example parts change = record { parts = parts; change = change }

-- words, as they are typed and as they are asked
abbrev pub typed : List String → List Lexed
typed texts = map (λ text. lexed kind.Bare (codes text)) texts

abbrev pub words : List String → List (List ℕ)
words texts = map codes texts

-- words in brackets
abbrev pub in_brackets : List String → List Lexed
in_brackets texts = lexed kind.OpenBracket [] ∷ (typed texts ++ lexed kind.CloseBracket [] ∷ [])

abbrev pub examples : List Example
examples =
    example (typed ("set" ∷ "system" ∷ "host-name" ∷ "r1" ∷ [])) (op.Set (words ("system" ∷ "host-name" ∷ "r1" ∷ [])))
    ∷ example (typed ("set" ∷ "apply-groups" ∷ []) ++ in_brackets ("a" ∷ "b" ∷ [])) (op.Set (words ("apply-groups" ∷ "a" ∷ "b" ∷ [])))
    ∷ example (typed ("delete" ∷ "system" ∷ "host-name" ∷ [])) (op.Delete (words ("system" ∷ "host-name" ∷ [])))
    ∷ example (typed ("delete" ∷ "apply-groups" ∷ []) ++ in_brackets ("a" ∷ "b" ∷ [])) (op.Delete (words ("apply-groups" ∷ "a" ∷ "b" ∷ [])))
    ∷ example (typed ("activate" ∷ "interfaces" ∷ "ge-0/0/0" ∷ [])) (op.Activate (words ("interfaces" ∷ "ge-0/0/0" ∷ [])))
    ∷ example (typed ("deactivate" ∷ "interfaces" ∷ "ge-0/0/0" ∷ [])) (op.Deactivate (words ("interfaces" ∷ "ge-0/0/0" ∷ [])))
    ∷ example (typed ("protect" ∷ "interfaces" ∷ "ge-0/0/0" ∷ [])) (op.Protect (words ("interfaces" ∷ "ge-0/0/0" ∷ [])))
    ∷ example (typed ("unprotect" ∷ "interfaces" ∷ "ge-0/0/0" ∷ [])) (op.Unprotect (words ("interfaces" ∷ "ge-0/0/0" ∷ [])))
    ∷ example (typed ("rename" ∷ "groups" ∷ "a" ∷ "to" ∷ "b" ∷ [])) (op.Rename (words ("groups" ∷ "a" ∷ [])) (words ("b" ∷ [])))
    ∷ example (typed ("copy" ∷ "groups" ∷ "a" ∷ "to" ∷ "b" ∷ [])) (op.Copy (words ("groups" ∷ "a" ∷ [])) (words ("b" ∷ [])))
    ∷ example (typed ("insert" ∷ "groups" ∷ "a" ∷ "before" ∷ "b" ∷ [])) (op.Insert (words ("groups" ∷ "a" ∷ [])) true (words ("b" ∷ [])))
    ∷ example (typed ("insert" ∷ "groups" ∷ "a" ∷ "after" ∷ "b" ∷ [])) (op.Insert (words ("groups" ∷ "a" ∷ [])) false (words ("b" ∷ [])))
    ∷ []

-- a line of these tokens asks what its example says
abbrev pub IsShown : Example → Type 0
IsShown example = (line : List ℕ) (tokens : List Token) → IsCut line tokens None → parts_in line tokens ≡ example.parts → AsksChange line example.change
