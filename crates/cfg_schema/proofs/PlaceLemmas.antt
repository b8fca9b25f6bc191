-- Following a path step by step.
use Rattle.std.proofs.Common.{◌≡◌, ℕ, List, Option, ◌&&◌, ap, ◌∙◌, position}
use Rattle.cfg_base.specs.declared.path.Step.{Step}
use Rattle.cfg_schema.specs.declared.table.Line.{Line}
use Rattle.cfg_schema.specs.declared.level.Level.{Level}
use Rattle.cfg_schema.specs.declared.place.Place.{Place}
use Rattle.cfg_schema.specs.Profile.{profile, stands, level_in}
use Rattle.cfg_schema.specs.Place.{fits, entered_by, place_after, ordered_row}

-- the row found in these lines is that of the profile
pub led : (here : Place) (step : Step) (number : ℕ) (lines : List Line) (level : Level) (result : Option Place)
    → lines ≡ profile → number ≡ here.row → level ≡ level_in lines number here.in_group
    → result ≡ entered_by here (position (fits level step) lines)
    → result ≡ place_after here step
led here step number lines level result a b c d =
    d
    ∙ ap (λ (l : Level). entered_by here (position (fits l step) lines)) c
    ∙ ap (λ (n : ℕ). entered_by here (position (fits (level_in lines n here.in_group) step) lines)) b
    ∙ ap (λ (ls : List Line). entered_by here (position (fits (level_in ls here.row here.in_group) step) ls)) a

-- the ordered row found in these lines is that of the profile
pub ordered_there : (here : Place) (number : ℕ) (lines : List Line) (level : Level) (result : Option ℕ)
    → lines ≡ profile → number ≡ here.row → level ≡ level_in lines number here.in_group
    → result ≡ position (λ line. stands level line && line.ordered) lines
    → result ≡ ordered_row here
ordered_there here number lines level result a b c d =
    d
    ∙ ap (λ (l : Level). position (λ line. stands l line && line.ordered) lines) c
    ∙ ap (λ (n : ℕ). position (λ line. stands (level_in lines n here.in_group) line && line.ordered) lines) b
    ∙ ap (λ (ls : List Line). position (λ line. stands (level_in ls here.row here.in_group) line && line.ordered) ls) a
