use Rattle.std.proofs.Common.{ℕ, Bool, drop, sym, ap, ◌∙◌}
use Rattle.std.specs.Prelude.{Option, None, if◌then◌else◌}
use Rattle.shell_words.specs.Time.{clock_of, day_in, on_day}
use Rattle.shell_words.proofs.TimeLemmas.{behind}
use Rattle.shell_words.proofs.time.dated.Goals as goal

pub returns-then-is_dated : goal.returns-then-is_dated
returns-then-is_dated c =
    c.on_day.ensures
    ∙ ap (λ (d : Option ℕ). on_day d c.clock_of.result) c.day_in.ensures
    ∙ ap (on_day (day_in c.args.word.now)) (c.clock_of.ensures ∙ ap clock_of (behind 11 c.args.word.now))
    ∙ sym (ap (λ (b : Bool). if b then on_day (day_in c.args.word.now) (clock_of (drop 11 c.args.word.now)) else None) (sym c.is_dated.ensures ∙ c.if-is_dated.true))
