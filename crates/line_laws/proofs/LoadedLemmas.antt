-- A change that a line asks in configuration mode it asks in a loaded text.
use Rattle.std.proofs.Common.{◌≡◌, ◌<◌, inl, inr, ℕ, List, [], ◌∷◌, ◌++◌, length, filter, Bool, true, false, ◌&&◌, Option, Some, Result, Ok, refl, sym, ap, subst, ◌∙◌, arith}
use Rattle.std.specs.List.{list_all, AllByRecursion}
use Rattle.std.proofs.lemmas.Bool.{and_parts, and_from}
use Rattle.std.proofs.lemmas.List.{append-nil}
use Rattle.cfg_base.specs.Words.{same_word}
use Rattle.commands.specs.declared.command.Command.TheVariants as command
use Rattle.commands.specs.declared.command.Op.{Op}
use Rattle.commands.specs.declared.mover.Mover.{Mover}
use Rattle.commands.specs.declared.mover.Mover.TheVariants.{Rename, Copy, InsertBefore, InsertAfter}
use Rattle.commands.specs.declared.verb.Verb.{Verb}
use Rattle.commands.specs.declared.verb.Verb.TheVariants.{Set, Delete, Activate, Deactivate, Protect, Unprotect}
use Rattle.commands.specs.Mover as moves
use Rattle.commands.specs.Verb.{keyword, op_of}
use Rattle.cfg_lex.specs.declared.token.TokenKind.{TokenKind}
use Rattle.cfg_lex.specs.declared.token.TokenKind.TheVariants as kind
use Rattle.cfg_lex.specs.Lexed.{lexed, is_word_kind}
use Rattle.set_text.proofs.Names.{LineForm, one_list, two_lists}
use Rattle.set_text.specs.Form.{form_of, words_among, mover_of, IsPlain, IsTail, IsBracketed, AsksBehind, Spells}
use Rattle.shell_words.proofs.Names.{Row, any, neither, plain, bracketed, around, is_change, others_change_nothing}
use Rattle.shell_words.specs.declared.making.Words0.{Words0}
use Rattle.shell_words.specs.declared.making.Words0.TheVariants.{Whole}
use Rattle.shell_words.specs.Item.{Item}
use Rattle.shell_words.specs.Form.{is_of, parts_of, FitsParts, forms_of}
use Rattle.shell_words.specs.Made.{made_by}
use Rattle.shell_words.specs.Pair.{change_in}
use Rattle.shell_words.proofs.SymbolLemmas.{same_is}
use Rattle.line_laws.proofs.TokenLemmas.{tokens_of, kinds_in, words_in, AreWords, tokens_join, kinds_join, words_by_kind, words_all, bracketed_words, open_is, close_is}
use Rattle.line_laws.proofs.RowLemmas.{at_tested, names_are, neither_words, mark_is, IsApart, two_sides}
use Rattle.line_laws.proofs.TypedLemmas.{IsTyped}

-- the lines of a form of configuration mode that are changes are set lines
abbrev RowLoaded : Row → Type 0
RowLoaded form = (items : List Item) (words : List (List ℕ)) (change : Op) → FitsParts (parts_of form) items words → Whole (command.Change change) ≡ made_by form.makes items words → Spells (tokens_of items) change

same_change : (one other : Op) → Whole (command.Change one) ≡ Whole (command.Change other) → one ≡ other
same_change one other e = cc

-- a keyword, and what stands after it
spelled_by : (form : LineForm) (bytes : List ℕ) (first : Item) (behind : List Item) (change : Op) → form_of bytes ≡ Some form → (is_word_kind first.token.kind && same_word bytes first.token.word) ≡ true → AsksBehind form (tokens_of behind) change → Spells (tokens_of (first ∷ behind)) change
spelled_by form bytes first behind change begun is asked =
    let both = and_parts (is_word_kind first.token.kind) (same_word bytes first.token.word) is in
    record {
      first = first.token;
      rest = tokens_of behind;
      joined = refl;
      word = both.0;
      form = form;
      begun = ap form_of (sym (same_is bytes first.token.word both.1)) ∙ begun;
      asked = asked;
    }

plain_tail : (brackets : Bool) (kinds : List TokenKind) → IsPlain kinds → IsTail brackets kinds
plain_tail true kinds tail = inl tail
plain_tail false kinds tail = tail

are_plain : (items : List Item) → AreWords items → 0 < length items → IsPlain (kinds_in items)
are_plain [] all some = absurd (omega arith)
are_plain (item ∷ items) all some = record { words = words_by_kind (item ∷ items) ∙ all; some = omega arith }

plain_loaded : (verb : Verb) (brackets : Bool) → form_of (keyword verb) ≡ Some (one_list verb brackets) → RowLoaded (plain verb)
plain_loaded verb brackets begun items words change fit asked =
    let first = fit.first in
    let word = fit.behind.first in
    let run = fit.behind.behind.run in
    let more : List Item = word ∷ run in
    let joined : items ≡ first ∷ more =
    fit.joined ∙ ap (λ is. first ∷ is) (fit.behind.joined ∙ ap (λ is. word ∷ is) (fit.behind.behind.joined ∙ ap (λ is. run ++ is) fit.behind.behind.behind.0 ∙ append-nil run)) in
    let given : words ≡ words_in more =
    fit.given ∙ fit.behind.given ∙ ap (λ ws. word.token.word ∷ ws) (fit.behind.behind.given ∙ ap (λ ws. words_in run ++ ws) fit.behind.behind.behind.1 ∙ append-nil (words_in run)) in
    let all : AreWords more = and_from (is_of any word) (list_all (is_of any) run) fit.behind.is fit.behind.behind.all in
    let change_is : change ≡ op_of verb (words_among (tokens_of more)) = same_change change (op_of verb words) asked ∙ ap (op_of verb) (given ∙ sym (words_all more all)) in
    subst (λ is. Spells (tokens_of is) change) (sym joined)
    (spelled_by (one_list verb brackets) (keyword verb) first more change begun fit.is (plain_tail brackets (kinds_in more) (are_plain more all (omega arith)), change_is))

bracketed_loaded : (verb : Verb) → form_of (keyword verb) ≡ Some (one_list verb true) → RowLoaded (bracketed verb)
bracketed_loaded verb begun items words change fit asked =
    let first = fit.first in
    let front = fit.behind.run in
    let opened = fit.behind.behind in
    let opening = opened.first in
    let word = opened.behind.first in
    let run = opened.behind.behind.run in
    let closed = opened.behind.behind.behind in
    let closing = closed.first in
    let inside : List Item = word ∷ run in
    let behind : List Item = front ++ opening ∷ (inside ++ closing ∷ []) in
    let end : closed.rest ≡ [] = closed.behind.0 in
    let joined : items ≡ first ∷ behind =
    fit.joined ∙ ap (λ is. first ∷ is)
    (fit.behind.joined ∙ ap (λ is. front ++ is)
    (opened.joined ∙ ap (λ is. opening ∷ is)
    (opened.behind.joined ∙ ap (λ is. word ∷ is)
    (opened.behind.behind.joined ∙ ap (λ is. run ++ is) (closed.joined ∙ ap (λ is. closing ∷ is) end))))) in
    let given : words ≡ words_in front ++ (words_in inside ++ []) =
    fit.given ∙ fit.behind.given ∙ ap (λ ws. words_in front ++ ws)
    (opened.given ∙ opened.behind.given ∙ ap (λ ws. word.token.word ∷ ws)
    (opened.behind.behind.given ∙ ap (λ ws. words_in run ++ ws) (closed.given ∙ closed.behind.1))) in
    let within : AreWords inside = and_from (is_of any word) (list_all (is_of any) run) opened.behind.is opened.behind.behind.all in
    let opens : opening.token.kind ≡ kind.OpenBracket = open_is opening.token.kind opened.is in
    let closes : closing.token.kind ≡ kind.CloseBracket = close_is closing.token.kind closed.is in
    let words_are = bracketed_words front inside opening closing fit.behind.all within (ap is_word_kind opens) (ap is_word_kind closes) in
    let tail : IsBracketed (kinds_in behind) =
    record {
      front = kinds_in front;
      inside = kinds_in inside;
      joined = kinds_join front (opening ∷ (inside ++ closing ∷ []))
          ∙ ap (λ ks. kinds_in front ++ ks)
          (ap (λ k. k ∷ kinds_in (inside ++ closing ∷ [])) opens
          ∙ ap (λ ks. kind.OpenBracket ∷ ks) (kinds_join inside (closing ∷ []) ∙ ap (λ k. kinds_in inside ++ k ∷ []) closes));
      front_words = words_by_kind front ∙ fit.behind.all;
      inside_words = words_by_kind inside ∙ within;
      some = omega arith;
    } in
    subst (λ is. Spells (tokens_of is) change) (sym joined)
    (spelled_by (one_list verb true) (keyword verb) first behind change begun fit.is
    (inr tail, same_change change (op_of verb words) asked ∙ ap (op_of verb) (given ∙ sym words_are)))

around_loaded : (mover one other : Mover) → form_of (moves.keyword mover) ≡ Some (two_lists one other) → mover_of one other (lexed kind.Bare (moves.mark mover)) ≡ Some mover → IsApart mover one other → RowLoaded (around mover one other)
around_loaded mover one other begun own apart items words change fit asked =
    let first = fit.first in
    let name = fit.behind.first in
    let names = fit.behind.behind.run in
    let marked = fit.behind.behind.behind in
    let mark = marked.first in
    let word = marked.behind.first in
    let run = marked.behind.behind.run in
    let front : List Item = name ∷ names in
    let back : List Item = word ∷ run in
    let behind : List Item = front ++ mark ∷ back in
    let end : marked.behind.behind.rest ≡ [] = marked.behind.behind.behind.0 in
    let joined : items ≡ first ∷ behind =
    fit.joined ∙ ap (λ is. first ∷ is)
    (fit.behind.joined ∙ ap (λ is. name ∷ is)
    (fit.behind.behind.joined ∙ ap (λ is. names ++ is)
    (marked.joined ∙ ap (λ is. mark ∷ is)
    (marked.behind.joined ∙ ap (λ is. word ∷ is) (marked.behind.behind.joined ∙ ap (λ is. run ++ is) end ∙ append-nil run))))) in
    let are_names : list_all (is_of (neither one other)) front ≡ true = and_from (is_of (neither one other) name) (list_all (is_of (neither one other)) names) fit.behind.is fit.behind.behind.all in
    let all : AreWords back = and_from (is_of any word) (list_all (is_of any) run) marked.behind.is marked.behind.behind.all in
    let change_is : change ≡ moves.op_of mover (words_in front) (words_in back) =
    same_change change (change_in mover items) asked ∙ ap (change_in mover) joined ∙ two_sides mover one other apart first front mark back fit.is are_names marked.is in
    subst (λ is. Spells (tokens_of is) change) (sym joined)
    (spelled_by (two_lists one other) (moves.keyword mover) first behind change begun fit.is
    (record {
      front = tokens_of front;
      mark = mark.token;
      behind = tokens_of back;
      joined = tokens_join front (mark ∷ back);
      names = names_are one other front ∙ are_names;
      some = omega arith;
      mover = mover;
      marked = mark_is one other mover mark.token own marked.is;
      words = are_plain back all (omega arith);
      asked = change_is
          ∙ ap (λ ws. moves.op_of mover ws (words_in back)) (sym (words_all front (neither_words one other front are_names)))
          ∙ ap (moves.op_of mover (words_among (tokens_of front))) (sym (words_all back all));
    }))

rows_loaded : AllByRecursion RowLoaded (filter is_change (forms_of true))
unfolding forms_of
rows_loaded = (
  plain_loaded Set true refl,
  (
    bracketed_loaded Set refl,
    (
      plain_loaded Delete true refl,
      (
        bracketed_loaded Delete refl,
        (
          plain_loaded Activate false refl,
          (
            plain_loaded Deactivate false refl,
            (
              plain_loaded Protect false refl,
              (
                plain_loaded Unprotect false refl,
                (
                  around_loaded Rename Rename Rename refl refl (record { keyword = refl; names = refl }),
                  (
                    around_loaded Copy Copy Copy refl refl (record { keyword = refl; names = refl }),
                    (
                      around_loaded InsertBefore InsertBefore InsertAfter refl refl (record { keyword = refl; names = refl }),
                      (
                        around_loaded InsertAfter InsertBefore InsertAfter refl refl (record { keyword = refl; names = refl }),
                        tt,
                      ),
                    ),
                  ),
                ),
              ),
            ),
          ),
        ),
      ),
    ),
  ),
)

abbrev made_answer : Words0 → Result (Option Words0) ℕ
made_answer made = Ok (Some made)

same_made : (one other : Words0) → made_answer one ≡ made_answer other → one ≡ other
same_made one other e = cc

-- a line that is a change of configuration mode
pub loaded : (items : List Item) (change : Op) → IsTyped items change → Spells (tokens_of items) change
loaded items change line =
    at_tested RowLoaded is_change (forms_of true) rows_loaded
    (λ form other some words one fit asked. absurd (others_change_nothing form other some words one asked)) line.form line.line.served
    items line.words change line.line.fits (same_made (Whole (command.Change change)) (made_by line.form.makes items line.words) line.is)
