-- Who may send from outside is one list, and is what is read.
use Rattle.std.proofs.Common.{◌≡◌, ℕ, List, Option, Some, None, Ok, Err, refl, sym, ap}
use Rattle.std.proofs.lemmas.Option.{same_Some}
use Rattle.mls_wire.specs.ExactReads.{DecodesAll-exact}
use Rattle.mls_wire.specs.Faults.{too_long_at}
use Rattle.mls_wire.specs.ExactTheorems.{one_value}
use Rattle.mls_wire.specs.Parsing.{whole_at, list_at}
use Rattle.mls_wire.specs.Encoding.{list}
use Rattle.mls_wire.specs.declared.fault.CodecFault.TheVariants as faults
use Rattle.mls_nodes.specs.Layout.{external_sender}
use Rattle.mls_nodes.specs.Parsing.{external_sender_at}
use Rattle.mls_nodes.specs.NodesExact.{external_senders_exact}
use Rattle.mls_nodes.specs.Requirements.{extension_of}
use Rattle.mls_nodes.specs.ExternalSenders.{FindsSenders, HasSenders, senders_in, senders_by}
use Rattle.mls_nodes.specs.declared.extension.Extension.{Extension}
use Rattle.mls_nodes.specs.declared.senders.ExternalSender.{ExternalSender}

read_is : (body : List ℕ) (r : List ExternalSender) (o : Option (List ExternalSender)) → whole_at (list_at external_sender_at) body ≡ o
    → list external_sender r ≡ Some body → o ≡ Some r
read_is body r None e h = absurd (DecodesAll-exact (list external_sender) (list_at external_sender_at) external_senders_exact body (Err (faults.Wire (too_long_at 0))) e r h)
read_is body r (Some s) e h =
    ap Some (one_value (list external_sender) (list_at external_sender_at) external_senders_exact s r body
    (DecodesAll-exact (list external_sender) (list_at external_sender_at) external_senders_exact body (Ok s) e) h)

read_in : (body : Option (List ℕ)) (r : List ExternalSender) → FindsSenders body (Ok r) → senders_in body ≡ Some r
read_in None r h = ap Some (sym h)
read_in (Some body) r h = read_is body r (whole_at (list_at external_sender_at) body) refl h

in_read : (body : Option (List ℕ)) (r : List ExternalSender) → senders_in body ≡ Some r → FindsSenders body (Ok r)
in_read None r h = sym (same_Some _ r h)
in_read (Some body) r h = DecodesAll-exact (list external_sender) (list_at external_sender_at) external_senders_exact body (Ok r) h

pub senders_by-determines : (extensions : List Extension) (r : List ExternalSender) → senders_by extensions ≡ Some r → HasSenders extensions r
unfolding senders_by
senders_by-determines extensions r h = in_read (extension_of 5 extensions) r h

pub senders_by-determined : (extensions : List Extension) (r : List ExternalSender) → HasSenders extensions r → senders_by extensions ≡ Some r
unfolding senders_by
senders_by-determined extensions r h = read_in (extension_of 5 extensions) r h
