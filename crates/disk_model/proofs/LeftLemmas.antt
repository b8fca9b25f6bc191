-- A crash leaves what was synced, and may leave the contents.
use Rattle.std.proofs.Common.{◌≡◌, ℕ, true, List, [], ◌∷◌, take, drop, inl, sym, ap, subst, ◌∙◌, arith}
use Rattle.disk_model.specs.Disk.{Call, Called, History, IsImage, LeftBetween, Since, DiskState, Sync, after, at_first, contents_of, settled, state_of}
use Rattle.disk_model.proofs.Images.{cleared_image, contents_image, synced_after}
use Rattle.disk_model.proofs.States.{state_called}

pub synced_left : (before after' : History) (image : List ℕ) → Called before (Sync true) after' → IsImage (state_of after') image → image ≡ contents_of after'
synced_left before after' image called is =
    let now : state_of after' ≡ settled (state_of before) true = state_called before after' (Sync true) called in
    cleared_image (state_of before) image (subst (λ (s : DiskState). IsImage s image) now is) ∙ sym (ap (λ (s : DiskState). s.contents) now)

first_moment : (s : DiskState) (calls : List Call) (image : List ℕ) → IsImage s image → Since s calls image
first_moment s [] image is = is
first_moment s (call ∷ calls) image is = inl is

pub contents_left : (h : History) (from to : ℕ) → LeftBetween h from to (contents_of (record { first = h.first; calls = take from h.calls }))
unfolding state_of
contents_left h from to =
    let s : DiskState = after (at_first h.first) (take from h.calls) in
    first_moment s (drop from (take to h.calls)) s.contents (contents_image s (synced_after (at_first h.first) (take from h.calls) (omega arith)))
