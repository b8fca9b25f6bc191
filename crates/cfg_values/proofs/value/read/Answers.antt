use Rattle.std.proofs.Common.{refl}
use Rattle.cfg_values.proofs.value.read.Goals as goal

pub as_read-requires-clause-kept : goal.as_read-requires-clause-kept
as_read-requires-clause-kept c =
    rw c.in-Name.is (λ fits. record { value = c.args.bytes.now; spells = (c.is_name.ensures.0 fits, refl); canonical_is = refl })

pub as_read-requires-in-Host-clause-kept : goal.as_read-requires-in-Host-clause-kept
as_read-requires-in-Host-clause-kept c =
    rw c.in-Host.is (λ fits. record { value = c.args.bytes.now; spells = (c.is_host.ensures.0 fits, refl); canonical_is = refl })

pub as_read-requires-in-Text-clause-kept : goal.as_read-requires-in-Text-clause-kept
as_read-requires-in-Text-clause-kept c =
    rw c.in-Text.is (λ fits. record { value = c.args.bytes.now; spells = (c.is_text.ensures.0 fits, refl); canonical_is = refl })

pub as_read-requires-in-IfName-clause-kept : goal.as_read-requires-in-IfName-clause-kept
as_read-requires-in-IfName-clause-kept c =
    rw c.in-IfName.is (λ fits. record { value = c.args.bytes.now; spells = (c.is_interface.ensures.0 fits, refl); canonical_is = refl })
