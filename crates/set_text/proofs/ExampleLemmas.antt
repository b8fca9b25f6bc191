-- The examples of lines, each by its form.
use Rattle.std.proofs.Common.{◌≡◌, ◌<◌, inl, inr, List, [], ◌∷◌, ◌++◌, length, Bool, true, false, Some, refl, sym, subst, lit<}
use Rattle.std.specs.List.{list_all, All, AllByRecursion}
use Rattle.std.proofs.lemmas.List.Elements.{All-from_recursion}
use Rattle.commands.specs.declared.mover.Mover.{Mover}
use Rattle.commands.specs.declared.mover.Mover.TheVariants.{Rename, Copy, InsertBefore, InsertAfter}
use Rattle.commands.specs.declared.verb.Verb.{Verb}
use Rattle.commands.specs.declared.verb.Verb.TheVariants.{Set, Delete, Activate, Deactivate, Protect, Unprotect}
use Rattle.commands.specs.Mover as moves
use Rattle.commands.specs.Verb.{keyword, op_of}
use Rattle.cfg_lex.specs.declared.token.TokenKind.TheVariants as kind
use Rattle.cfg_lex.specs.Lexed.{Lexed, lexed}
use Rattle.set_text.specs.declared.form.Form.TheVariants.{OneList, TwoLists}
use Rattle.set_text.specs.Form.{form_of, kinds_of, words_among, mover_of, is_name, AreWords, IsTail, Spells}
use Rattle.set_text.specs.Examples.{Example, examples, typed, in_brackets, IsShown}

-- a keyword and what stands after it
one_list : (verb : Verb) (brackets : Bool) (rest : List Lexed) → form_of (keyword verb) ≡ Some (OneList verb brackets) → IsTail brackets (kinds_of rest) → Spells (lexed kind.Bare (keyword verb) ∷ rest) (op_of verb (words_among rest))
one_list verb brackets rest begun tail = record {
  first = lexed kind.Bare (keyword verb);
  rest = rest;
  joined = refl;
  word = refl;
  form = OneList verb brackets;
  begun = begun;
  asked = (tail, refl);
}

two_lists : (one other mover : Mover) (front behind : List Lexed) → form_of (moves.keyword mover) ≡ Some (TwoLists one other) → list_all (is_name one other) front ≡ true → 0 < length front → mover_of one other (lexed kind.Bare (moves.mark mover)) ≡ Some mover → AreWords (kinds_of behind) → 0 < length (kinds_of behind) → Spells (lexed kind.Bare (moves.keyword mover) ∷ (front ++ lexed kind.Bare (moves.mark mover) ∷ behind)) (moves.op_of mover (words_among front) (words_among behind))
two_lists one other mover front behind begun names some marked words more = record {
  first = lexed kind.Bare (moves.keyword mover);
  rest = front ++ lexed kind.Bare (moves.mark mover) ∷ behind;
  joined = refl;
  word = refl;
  form = TwoLists one other;
  begun = begun;
  asked = record {
    front = front;
    mark = lexed kind.Bare (moves.mark mover);
    behind = behind;
    joined = refl;
    names = names;
    some = some;
    mover = mover;
    marked = marked;
    words = record { words = words; some = more };
    asked = refl;
  };
}

abbrev IsSpelled : Example → Type 0
IsSpelled example = Spells example.parts example.change

abbrev name : List Lexed
name = typed ("groups" ∷ "a" ∷ [])

spelled : AllByRecursion IsSpelled examples
spelled = (
  one_list Set true (typed ("system" ∷ "host-name" ∷ "r1" ∷ [])) refl (inl record { words = refl; some = lit< tt }),
  (
    one_list Set true (typed ("apply-groups" ∷ []) ++ in_brackets ("a" ∷ "b" ∷ [])) refl (inr record { front = kind.Bare ∷ []; inside = kind.Bare ∷ kind.Bare ∷ []; joined = refl; front_words = refl; inside_words = refl; some = lit< tt }),
    (
      one_list Delete true (typed ("system" ∷ "host-name" ∷ [])) refl (inl record { words = refl; some = lit< tt }),
      (
        one_list Delete true (typed ("apply-groups" ∷ []) ++ in_brackets ("a" ∷ "b" ∷ [])) refl (inr record { front = kind.Bare ∷ []; inside = kind.Bare ∷ kind.Bare ∷ []; joined = refl; front_words = refl; inside_words = refl; some = lit< tt }),
        (
          one_list Activate false (typed ("interfaces" ∷ "ge-0/0/0" ∷ [])) refl (record { words = refl; some = lit< tt }),
          (
            one_list Deactivate false (typed ("interfaces" ∷ "ge-0/0/0" ∷ [])) refl (record { words = refl; some = lit< tt }),
            (
              one_list Protect false (typed ("interfaces" ∷ "ge-0/0/0" ∷ [])) refl (record { words = refl; some = lit< tt }),
              (
                one_list Unprotect false (typed ("interfaces" ∷ "ge-0/0/0" ∷ [])) refl (record { words = refl; some = lit< tt }),
                (
                  two_lists Rename Rename Rename name (typed ("b" ∷ [])) refl refl (lit< tt) refl refl (lit< tt),
                  (
                    two_lists Copy Copy Copy name (typed ("b" ∷ [])) refl refl (lit< tt) refl refl (lit< tt),
                    (
                      two_lists InsertBefore InsertAfter InsertBefore name (typed ("b" ∷ [])) refl refl (lit< tt) refl refl (lit< tt),
                      (
                        two_lists InsertBefore InsertAfter InsertAfter name (typed ("b" ∷ [])) refl refl (lit< tt) refl refl (lit< tt),
                        tt,
                      ),
                    ),
                  ),
                ),
              ),
            ),
          ),
        ),
      ),
    ),
  ),
)

shown : (xs : List Example) → AllByRecursion IsSpelled xs → AllByRecursion IsShown xs
shown [] lines = tt
shown (example ∷ xs) lines = (
  λ line tokens cut parts. record { tokens = tokens; cut = cut; spelled = subst (λ ps. Spells ps example.change) (sym parts) lines.0 },
  shown xs lines.1,
)

pub examples_shown : All IsShown examples
examples_shown = All-from_recursion IsShown examples (shown examples spelled)
