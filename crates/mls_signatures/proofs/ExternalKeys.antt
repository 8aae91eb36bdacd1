-- The external senders that a call reads or cannot read, and the key of one of them.
use Rattle.std.proofs.Common.{◌≡◌, ◌≤◌, ◌<◌, ℕ, zero, suc, List, [], ◌∷◌, length, get_or, Option, Some, None, Ok, Err, refl, sym, ap, arith}
use Rattle.mls_wire.specs.declared.fault.CodecFault.TheVariants as faults
use Rattle.mls_wire.specs.declared.fault.WireFault.{WireFault}
use Rattle.mls_nodes.proofs.SendersOnce.{senders_by-determines, senders_by-determined}
use Rattle.mls_nodes.specs.ExternalSenders.{FindsSenders, senders_by}
use Rattle.mls_nodes.specs.Requirements.{extension_of}
use Rattle.mls_nodes.specs.declared.extension.Extension.{Extension}
use Rattle.mls_nodes.specs.declared.senders.ExternalSender.{ExternalSender}
use Rattle.mls_signatures.specs.SigningKeys.{external_sender_key}

-- a list that was read
pub senders_read : (extensions : List Extension) (senders : List ExternalSender) → FindsSenders (extension_of 5 extensions) (Ok senders)
    → Some senders ≡ senders_by extensions
senders_read extensions senders h = sym (senders_by-determined extensions senders h)

-- bytes that a call can't read encode no list
read_and_not : (body : Option (List ℕ)) (f : WireFault) (senders : List ExternalSender) → FindsSenders body (Err (faults.Wire f)) → FindsSenders body (Ok senders) → ⊥
read_and_not None f senders h e = h
read_and_not (Some body) f senders h e = h senders e

pub senders_unread : (extensions : List Extension) (f : WireFault) → FindsSenders (extension_of 5 extensions) (Err (faults.Wire f))
    → None ≡ senders_by extensions
senders_unread extensions f h = go (senders_by extensions) refl
  where
    go : (o : Option (List ExternalSender)) → senders_by extensions ≡ o → None ≡ senders_by extensions
    go None e = sym e
    go (Some senders) e = absurd (read_and_not (extension_of 5 extensions) f senders h (senders_by-determines extensions senders e))

-- ---- one of them

pub key_there : (xs : List ExternalSender) (k : ℕ) (x : ExternalSender) → k < length xs → x ≡ get_or xs k x → Some x.signature_key ≡ external_sender_key xs k
key_there [] k x low e = absurd (omega arith)
key_there (y ∷ ys) zero x low e = ap (λ (s : ExternalSender). Some s.signature_key) e
key_there (y ∷ ys) (suc k) x low e = key_there ys k x (omega arith) e

pub key_past : (xs : List ExternalSender) (k : ℕ) → length xs ≤ k → None ≡ external_sender_key xs k
key_past [] k past = refl
key_past (x ∷ xs) zero past = absurd (omega arith)
key_past (x ∷ xs) (suc k) past = key_past xs k (omega arith)
