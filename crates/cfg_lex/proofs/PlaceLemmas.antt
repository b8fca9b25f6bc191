-- Places that are counted from further on in a text.
use Rattle.std.proofs.Common.{◌≡◌, ◌<◌, ℕ, ◌+◌, List, length, drop, get_or, eqb, ◌&&◌, false, cond, Option, None, Some, refl, sym, ap, ◌∙◌, arith}
use Rattle.std.proofs.lemmas.List.{at_drop_more}
use Rattle.cfg_lex.specs.Bytes.{begins_with}
use Rattle.cfg_lex.specs.Front.{later, close_of}

-- a place, counted from that many bytes before it
abbrev pub shifted : ℕ → Option ℕ → Option ℕ
shifted count None = None
shifted count (Some place) = Some (count + place)

pub shifted-later : (count : ℕ) (place : Option ℕ) → shifted (count + 1) place ≡ shifted count (later place)
shifted-later count None = refl
shifted-later count (Some place) = ap Some (omega arith)

-- where no `*/` begins at a place, the first one is the first after it
pub close_step : (text : List ℕ) (place : ℕ) → place < length text → (eqb (get_or text place 0) 42 && begins_with 47 (drop (place + 1) text)) ≡ false → shifted (place + 1) (close_of (drop (place + 1) text)) ≡ shifted place (close_of (drop place text))
close_step text place within none =
    shifted-later place (close_of (drop (place + 1) text))
    ∙ sym (ap (shifted place) (at_drop_more close_of text place 0 within ∙ ap (λ t. cond t (Some 0) (later (close_of (drop (place + 1) text)))) none))
