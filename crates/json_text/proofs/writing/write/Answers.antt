use Rattle.std.proofs.Common.{◌≡◌, ◌≤◌, ◌∷◌, [], ◌++◌, ℕ, List, Some, IsUtf8, refl, ap, sym, subst, ◌∙◌}
use Rattle.std.proofs.lemmas.Str.{IsUtf8-append}
use Rattle.serde_json.specs.Data.{Data, depth}
use Rattle.serde_json.specs.Read.{read, max_depth}
use Rattle.serde_json.specs.View.{view}
use Rattle.serde_json.specs.Written.{compact_text, has_float}
use Rattle.json_text.specs.Written.{json_of}
use Rattle.json_text.proofs.FeedLemmas.{read_back}
use Rattle.json_text.proofs.SaidLemmas.{says_back}
use Rattle.json_text.proofs.TextLemmas.{low_text}
use Rattle.json_text.proofs.NestedLemmas.{most, nested, shallow, floatless}
use Rattle.json_text.proofs.writing.write.Goals as goal

pub returns-clause-text : goal.returns-clause-text
returns-clause-text c =
    let value : view c.in_ok-value.value ≡ json_of c.args.tree.now = c.in_ok-value.ensures.value
    in let bytes : c.in_ok-text.text.items ≡ compact_text (json_of c.args.tree.now) =
    c.in_ok-text.ensures.text (ap has_float value ∙ floatless c.args.tree.now) ∙ ap compact_text value
    in c.from.ensures ∙ c.in_ok-push.ensures.items ∙ ap (λ (bs : List ℕ). bs ++ 10 ∷ []) bytes

pub returns-clause-back : goal.returns-clause-back
returns-clause-back c =
    let value : view c.in_ok-value.value ≡ json_of c.args.tree.now = c.in_ok-value.ensures.value
    in let bytes : c.in_ok-text.text.items ≡ compact_text (json_of c.args.tree.now) =
    c.in_ok-text.ensures.text (ap has_float value ∙ floatless c.args.tree.now) ∙ ap compact_text value
    in ap read (c.from.ensures ∙ c.in_ok-push.ensures.items ∙ ap (λ (bs : List ℕ). bs ++ 10 ∷ []) bytes)
    ∙ read_back most (json_of c.args.tree.now) (nested c.args.tree.now)
    ∙ ap read (sym bytes)
    ∙ c.in_ok-text.ensures.reads_back (subst (λ (d : Data). depth d ≤ max_depth) (sym value) (shallow c.args.tree.now))
    ∙ ap (λ (d : Data). Some d) value

pub returns-clause-read_as : goal.returns-clause-read_as
returns-clause-read_as c =
    let whole : c.from.result ≡ c.in_ok-text.text.items ++ 10 ∷ [] = c.from.ensures ∙ c.in_ok-push.ensures.items
    in record {
      value = json_of c.args.tree.now;
      json = record {
        utf8 = subst IsUtf8 (sym whole) (IsUtf8-append c.in_ok-text.text.items (10 ∷ []) c.in_ok-text.ensures.utf8 (low_text (10 ∷ []) refl));
        is = returns-clause-back c;
      };
      says = says_back c.args.tree.now c.in_ok-value.ensures.tree;
      few = c.in_ok-value.ensures.tree.few;
    }
