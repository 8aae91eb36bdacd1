-- The group, the epoch and the content type of a message of each wire format.
use Rattle.std.proofs.Common.{◌≡◌, ℕ, List, Option, Some, None}
use Rattle.mls_msgs.specs.PrivateMessage.{private_message}
use Rattle.mls_msgs.specs.declared.group_info.GroupInfo.{GroupInfo}
use Rattle.mls_msgs.specs.declared.key_package.KeyPackage.{KeyPackage}
use Rattle.mls_msgs.specs.declared.message.Message.TheVariants as messages
use Rattle.mls_msgs.specs.declared.public_message.PublicParts.{PublicParts}
use Rattle.mls_facts.specs.Facts.{type_of_content, EncodesNothing, UnreadNames, NamesGroup}

pub of_public : (p : PublicParts) (id : Option (List ℕ)) (e t : Option ℕ) → id ≡ Some p.auth.content.group_id → e ≡ Some p.auth.content.epoch → t ≡ Some (type_of_content p.auth.content.content) → NamesGroup (messages.Public p) id e t
of_public p id e t a b c = (a, b, c)

pub of_info : (g : GroupInfo) (id : Option (List ℕ)) (e t : Option ℕ) → id ≡ Some g.context.group_id → e ≡ Some g.context.epoch → t ≡ None → NamesGroup (messages.GroupInfo g) id e t
of_info g id e t a b c = (a, b, c)

pub of_package : (k : KeyPackage) (id : Option (List ℕ)) (e t : Option ℕ) → id ≡ None → e ≡ None → t ≡ None → NamesGroup (messages.KeyPackage k) id e t
of_package k id e t a b c = (a, b, c)

-- a body that is not read
pub of_other : (format : ℕ) (body : List ℕ) (id : Option (List ℕ)) (e t : Option ℕ) → (format ≡ 2 → ⊥) → id ≡ None → e ≡ None → t ≡ None → UnreadNames format body id e t
of_other format body id e t other a b c = UnreadNames.none (λ is. absurd (other is)) (a, b, c)

-- a body that encodes no PrivateMessage
pub of_nothing : (format : ℕ) (body : List ℕ) (id : Option (List ℕ)) (e t : Option ℕ) → EncodesNothing private_message body → id ≡ None → e ≡ None → t ≡ None → UnreadNames format body id e t
of_nothing format body id e t nothing a b c = UnreadNames.none (λ is. nothing) (a, b, c)
