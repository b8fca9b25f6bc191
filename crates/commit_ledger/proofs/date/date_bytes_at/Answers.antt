use Rattle.std.proofs.Common.{◌++◌, replicate, unsigned_abs, sym, ap, ◌∙◌}
use Rattle.jiff_core.specs.Time.{time_seconds}
use Rattle.commit_ledger.specs.Date.{day_text, time_text}
use Rattle.commit_ledger.proofs.DateLemmas.{date_is}
use Rattle.commit_ledger.proofs.date.date_bytes_at.Goals as goal
use borrow.Rule.Slice.PartMut.{put_mid}

pub returns : goal.returns
returns c =
    let shown = c.shown_at-shown.result in
    let day = day_text (record { year = unsigned_abs shown.date.year; month = shown.date.month; day = shown.date.day }) in
    let time = time_text (time_seconds shown.time) in
    ap (λ d. put_mid 11 8 (d ++ replicate 9 32) c.copy_from_slice-2.new.self) (c.copy_from_slice.ensures.after ∙ c.day_bytes.ensures)
    ∙ ap (λ t. put_mid 11 8 (day ++ replicate 9 32) t) (c.copy_from_slice-2.ensures.after ∙ c.time_bytes.ensures)
    ∙ sym (date_is c.args.moment shown c.shown_at-shown.ensures)
