-- Words that are read as text, and command lines without session words.
use Rattle.std.proofs.Common.{◌≡◌, ℕ, zero, suc, ◌+◌, ◌≤◌, ◌<◌, ◌⊎◌, inl, List, [], ◌∷◌, ◌++◌, length, take, map, codes, get_or, refl, sym, ap, ap₂, subst, ◌∙◌, Ok, Err, Option, Some, None, arith}
use Rattle.std.specs.Prelude.{Result, IfOk, option_map, unwrap_or}
use Rattle.std.specs.Borrow.{Bor}
use Rattle.std.specs.List.{All, IsDistinct}
use Rattle.std.specs.Str.{IsUtf8}
use Rattle.std.proofs.lemmas.List.Elements.{All-push}
use Rattle.clap.specs.Words.{Text}
use Rattle.command_line.specs.Asked.{AreSessions, file_in, users_of}
use Rattle.command_line.specs.Given.{Given}
use Rattle.command_line.proofs.SessionLemmas.{take_more}

-- the first words are text, and are read
pub record AreTexts (words : List Text) (at : ℕ) (texts : List (Bor Text)) : Type 0 where
  pub each : All IsUtf8 (take at words)
  pub same : map (λ s. s.now) texts ≡ take at words

pub no_texts : (words : List Text) (texts : List (Bor Text)) → texts ≡ [] → AreTexts words 0 texts
no_texts words texts none = record { each = λ k d less. absurd (omega (arith, less)); same = ap (map (λ s. s.now)) none }

map_push : (texts : List (Bor Text)) (text : Bor Text) → map (λ s. s.now) (texts ++ text ∷ []) ≡ map (λ s. s.now) texts ++ text.now ∷ []
map_push [] text = refl
map_push (t ∷ texts) text = ap (λ ts. t.now ∷ ts) (map_push texts text)

pub one_text : (words : List Text) (at : ℕ) (texts texts_now : List (Bor Text)) (text : Bor Text) (d : Text) → AreTexts words at texts → at < length words
    → text.now ≡ get_or words at d → IsUtf8 text.now → texts_now ≡ texts ++ text ∷ [] → AreTexts words (at + 1) texts_now
one_text words at texts texts_now text d are less is utf8 pushed = record {
  each = subst (All IsUtf8) (sym next) (All-push IsUtf8 (take at words) text.now are.each utf8);
  same = ap (map (λ s. s.now)) pushed ∙ map_push texts text ∙ ap (λ ts. ts ++ text.now ∷ []) are.same ∙ sym next;
}
  where
    next : take (at + 1) words ≡ take at words ++ text.now ∷ []
    next = take_more words at d less ∙ ap (λ w. take at words ++ w ∷ []) (sym is)

take_all : (words : List Text) (at : ℕ) → length words ≤ at → take at words ≡ words
take_all [] zero less = refl
take_all [] (suc at) less = refl
take_all (w ∷ words) zero less = absurd (omega (arith, less))
take_all (w ∷ words) (suc at) less = ap (λ ws. w ∷ ws) (take_all words at (omega (arith, less)))

pub all_texts : (words : List Text) (at : ℕ) (texts : List (Bor Text)) → AreTexts words at texts → length words ≤ at
    → All IsUtf8 words × (map (λ s. s.now) texts ≡ words)
all_texts words at texts are end = (subst (All IsUtf8) (take_all words at end) are.each, are.same ∙ take_all words at end)

pub no_text : (words : List Text) (at : ℕ) (word d : Text) → at < length words → word ≡ get_or words at d → (IsUtf8 word → ⊥) → All IsUtf8 words → ⊥
no_text words at word d less is none all = none (subst IsUtf8 (sym is) (all at d less))

pub none_are : AreSessions []
unfolding IsDistinct
none_are = record { each = λ k d less. absurd (omega (arith, less)); few = omega arith; once = tt }

pub without_sessions : {T E : Type 0} → (r : Result T E) (ws : List (Bor Text)) (mode : Text) → length ws ≡ 0
    → IfOk r (λ _. AreSessions (map (λ s. s.now) ws) × ((map (λ s. s.now) ws ≡ []) ⊎ (mode ≡ codes "serve")))
without_sessions (Err e) ws mode none = tt
without_sessions (Ok x) [] mode none = (none_are, inl refl)
without_sessions (Ok x) (w ∷ ws) mode none = absurd (omega (arith, none))

pub words_given : (o : Option (Bor (List (Bor Text)))) (d : Bor (List (Bor Text))) → d.now ≡ []
    → map (λ s. s.now) (unwrap_or o d).now ≡ unwrap_or (option_map (λ s. map (λ v. v.now) s.now) o) []
words_given None d none = ap (map (λ s. s.now)) none
words_given (Some x) d none = refl

-- what the sessions are of what was handed over, they are of what is given
pub at_given : (g : Given) (words : List Text) (mode user : Text) (users files : List Text) → words ≡ g.sessions → mode ≡ g.mode → user ≡ g.user
    → AreSessions words × ((words ≡ []) ⊎ (mode ≡ codes "serve")) → users ≡ users_of user words → files ≡ map file_in words
    → (AreSessions g.sessions × ((g.sessions ≡ []) ⊎ (g.mode ≡ codes "serve"))) × (users ≡ users_of g.user g.sessions) × (files ≡ map file_in g.sessions)
at_given g words mode user users files words_are mode_is user_is sound users_are files_are = (
  (subst AreSessions words_are sound.0, subst (λ m. (g.sessions ≡ []) ⊎ (m ≡ codes "serve")) mode_is (subst (λ ws. (ws ≡ []) ⊎ (mode ≡ codes "serve")) words_are sound.1)),
  users_are ∙ ap₂ users_of user_is words_are,
  files_are ∙ ap (map file_in) words_are,
)
