-- The names, words and keys that are written are UTF-8.
use Rattle.std.proofs.Common.{◌≡◌, ◌<◌, ℕ, zero, suc, Bool, true, nat_lt, ◌&&◌, List, [], ◌∷◌, length, refl, sym, ap, ◌∙◌, Some, is_some, arith}
use Rattle.std.specs.Prelude.{IsUtf8, IsAscii, slice_index_or}
use Rattle.std.specs.FinMap as finite
use Rattle.std.specs.List.{AllByRecursion, list_all}
use Rattle.std.proofs.lemmas.Bool.Decides.{nat_tests}
use Rattle.std.proofs.lemmas.Str.{IsUtf8-from_ascii, IsUtf8-append}
use Rattle.cfg_base.specs.declared.path.Step.{Step}
use Rattle.cfg_base.specs.declared.value.Value.{Value}
use Rattle.cfg_lex.specs.Bytes.{is_printing}
use Rattle.cfg_lex.specs.Printed.{IsPrintable}
use Rattle.cfg_schema.specs.declared.table.Line.{Line}
use Rattle.cfg_schema.specs.Profile.{profile, line_at, row_of}
use Rattle.cfg_schema.specs.Keyword.{spelled}
use Rattle.cfg_schema.specs.Place.{top_place, place_of, place_after, and_then}
use Rattle.cfg_schema.proofs.TestLemmas.{both}
use Rattle.cfg_tree.specs.Statements.{Statements, parent_of, last_of}
use Rattle.cfg_tree.specs.OwnWords.{own_words}
use Rattle.cfg_tree.specs.Tree.{step_of, IsTree}
use Rattle.cfg_tree.proofs.PathLemmas.{split}
use Rattle.cfg_tree.proofs.FollowLemmas.{typed_front, typed_last, typed_place}
use Rattle.cfg_tree.proofs.TypedLemmas.{place_snoc}
use Rattle.curly_text.proofs.PrintableLemmas.{AllPrintable, words_printable}
use Rattle.curly_text.proofs.WrittenLemmas.{own_printable}
use Rattle.json_text.specs.Keys.{key_by, key_of, marks_key}
use Rattle.json_text.specs.Writing.{IsText}

abbrev is_low : ℕ → Bool
is_low b = nat_lt b 128

low : (b : ℕ) → is_low b ≡ true → b < 128
low b e = grind (arith, nat_tests)

printing_low : (b : ℕ) → is_printing b ≡ true → is_low b ≡ true
printing_low b e = grind (arith, nat_tests)

ascii : (bytes : List ℕ) → list_all is_low bytes ≡ true → IsAscii bytes
ascii [] h i = omega arith
ascii (b ∷ bytes) h zero = low b (both (is_low b) _ h).0
ascii (b ∷ bytes) h (suc i) = ascii bytes (both (is_low b) _ h).1 i

-- low bytes are UTF-8
pub low_text : (bytes : List ℕ) → list_all is_low bytes ≡ true → IsUtf8 bytes
low_text bytes h = IsUtf8-from_ascii bytes (ascii bytes h)

all_low : (bytes : List ℕ) → list_all is_printing bytes ≡ true → list_all is_low bytes ≡ true
all_low [] h = refl
all_low (b ∷ bytes) h =
    let parts = both (is_printing b) _ h in ap (λ (t : Bool). t && list_all is_low bytes) (printing_low b parts.0) ∙ all_low bytes parts.1

printable_text : (word : List ℕ) → IsPrintable word → IsUtf8 word
printable_text word h = low_text word (all_low word h.printing)

words_text : (words : List (List ℕ)) → AllPrintable words → AllByRecursion IsUtf8 words
words_text [] h = tt
words_text (word ∷ words) h = (printable_text word h.0, words_text words h.1)

name_text : (head name : List ℕ) → AllPrintable (own_words (step_of head name ∷ [])) → IsUtf8 name
name_text head [] h = low_text [] refl
name_text [] (n ∷ name) h = printable_text (n ∷ name) h.0
name_text (b ∷ head) (n ∷ name) h = printable_text (n ∷ name) h.1.0

-- the name and the words of a statement
text_at : (m : Statements) → IsTree m → (path : List Step) (value : Value) → 0 < length path → finite.get m path ≡ Some value → IsText (last_of path) value
text_at m tree path value long found =
    let typed = tree.typed.paths path (ap is_some found)
    in let above = typed_place (parent_of path) top_place (typed_front path _ typed)
    in let last = typed_last path long typed above.0 above.1
    in let placed = ap (λ (p : List Step). place_of p) (split path long) ∙ place_snoc (parent_of path) (last_of path) top_place
    ∙ ap (and_then (λ h. place_after h (last_of path))) above.1 ∙ last.1
    in let words = tree.typed.words path value last.0 found placed
    in record {
      name = name_text (last_of path).head (last_of path).name (own_printable above.0 last.0 (last_of path) last.1 last.2);
      words = words_text value.words (words_printable (row_of last.0.row).value_kind value.words words.1);
    }

pub text_in : (m : Statements) → IsTree m → (path : List Step) (value : Value) → finite.get m path ≡ Some value → IsText (last_of path) value
text_in m tree [] value found = let c = sym tree.statements.top ∙ found in cc
text_in m tree (step ∷ path) value found = text_at m tree (step ∷ path) value (omega arith) found

-- the key of each row
abbrev has_low_key : Line → Bool
has_low_key line = list_all is_low (key_by line.shape (spelled line.head) (spelled line.name))

profile_keys : list_all has_low_key profile ≡ true
unfolding profile
profile_keys = refl

-- also past the end of the table
keys_past : (lines : List Line) (id : ℕ) → list_all has_low_key lines ≡ true → has_low_key (line_at lines id) ≡ true
keys_past [] id h = refl
keys_past (line ∷ lines) zero h = (both (has_low_key line) _ h).0
keys_past (line ∷ lines) (suc id) h = keys_past lines id (both (has_low_key line) _ h).1

pub key_text : (id : ℕ) → IsUtf8 (key_of id)
key_text id = low_text (key_of id) (keys_past profile id profile_keys)

-- the first of some words
pub first_text : (words : List (List ℕ)) → AllByRecursion IsUtf8 words → IsUtf8 (slice_index_or words 0 [])
first_text [] h = low_text [] refl
first_text (word ∷ words) h = h.0

-- the key of the marks beside a key
pub marks_text : (key : List ℕ) → IsUtf8 key → IsUtf8 (marks_key key)
marks_text key h = IsUtf8-append (64 ∷ []) key (low_text (64 ∷ []) refl) h
