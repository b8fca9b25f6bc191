use Rattle.std.proofs.Common.{◌∙◌, ◌++◌, ◌∷◌, [], List, ap, map, subst, sym}
use Rattle.std.specs.Prelude.{IfSome}
use Rattle.std.proofs.lemmas.Result.{IfOk-weaker}
use Rattle.commit_ledger.specs.declared.entry.Commit.{Commit}
use Rattle.commit_ledger.specs.declared.entry.Scheduled.{Scheduled}
use Rattle.commit_ledger.specs.declared.entry.Entry.TheVariants.{Commit as CommitOf, Scheduled as ScheduledOf}
use Rattle.commit_ledger.specs.Kept.{Kept}
use Rattle.commit_ledger.specs.Checkpoint.{HaveShortTexts, commit_record, keep_bytes, waiting_records}
use Rattle.commit_ledger.specs.Payload.{HasShortText}
use Rattle.commit_ledger.proofs.ImageLemmas.{image_is, short_last, short_older}
use Rattle.commit_ledger.proofs.ledger.Ledger.keep_image.Goals as goal

pub with_far_target-requires : goal.with_far_target-requires
with_far_target-requires c = c.requires.commits

pub with_commits-requires : goal.with_commits-requires
with_commits-requires c =
    subst HaveShortTexts (sym c.deref.ensures.value) (subst (λ (k : Kept). HaveShortTexts k.older) (sym c.self.view_is) (short_older c.args.self.now c.requires.commits))

pub with_commit-requires : goal.with_commit-requires
with_commit-requires c = subst (λ (k : Kept). HasShortText (CommitOf k.last)) (sym c.self.view_is) (short_last c.args.self.now c.requires.commits)

pub with_waiting-requires : goal.with_waiting-requires
with_waiting-requires c = subst (λ (k : Kept). IfSome k.scheduled (λ (w : Scheduled). HasShortText (ScheduledOf w))) (sym c.self.view_is) c.requires.waiting

pub returns : goal.returns
returns c =
    IfOk-weaker c.with_waiting.result _ _ (λ image is. image_is c.args.self.now c.in_ok-keep.keep c.in_ok-image.image c.in_ok-image-2.image c.in_ok-image-3.image c.in_ok-image-4.image image
    (c.in_ok-keep.ensures.bytes ∙ ap keep_bytes c.keep.ensures) c.in_ok-image.ensures c.in_ok-image-2.ensures
    (c.in_ok-image-3.ensures ∙ ap (λ (l : List Commit). c.in_ok-image-2.image ++ map commit_record l) (c.deref.ensures.value ∙ ap (λ (k : Kept). k.older) c.self.view_is))
    (c.in_ok-image-4.ensures ∙ ap (λ (k : Kept). c.in_ok-image-3.image ++ commit_record k.last ∷ []) c.self.view_is)
    (is ∙ ap (λ (k : Kept). c.in_ok-image-4.image ++ waiting_records k.scheduled) c.self.view_is)) c.with_waiting.ensures
