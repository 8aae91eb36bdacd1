-- Where a message's body begins, and a message that is kept unread.
use Rattle.std.proofs.Common.{◌≡◌, ◌∙◌, ℕ, ◌≤◌, List, length, take, drop, true, cond, ltb, eqb, Some, None, sym, ap, arith}
use Rattle.std.specs.Int.{Width, w16, byte_len, from_be_bytes}
use Rattle.std.proofs.lemmas.Bool.{ltb-false}
use Rattle.std.proofs.lemmas.List.{length-drop, drop-drop}
use Rattle.mls_wire.specs.Input.{Input, at, skip}
use Rattle.mls_wire.specs.Parsing.{number_at, all_bytes}
use Rattle.mls_wire.specs.OptionBind.{bind_some, guarded, allowed, some_is}
use Rattle.mls_msgs.specs.Message.{is_unread}
use Rattle.mls_msgs.specs.MessageParsing.{header_at, message_at}
use Rattle.mls_msgs.specs.MessageExact.{unread_again}
use Rattle.mls_msgs.specs.declared.message.Message.TheVariants as messages

-- a number that is read stands at the front
number_skip : (w : Width) (i : Input) (n : ℕ) (j : Input) → number_at w i ≡ Some (n, j) → (byte_len w ≤ length i.left) × (skip (byte_len w) i ≡ j)
unfolding number_at
number_skip w i n j e =
    let a = guarded (ltb (length i.left) (byte_len w)) _ (n, j) e in
    let b = allowed (all_bytes (take (byte_len w) i.left)) _ (n, j) a.1 in
    (ltb-false _ _ a.0, ap (λ (x : ℕ × Input). x.1) (some_is (from_be_bytes w (take (byte_len w) i.left), skip (byte_len w) i) (n, j) b.1))

-- the header takes four bytes
pub header_rest : (i : Input) (n : ℕ) (j : Input) → header_at i ≡ Some (n, j) → (4 ≤ length i.left) × (j.left ≡ drop 4 i.left)
unfolding header_at
header_rest i n j e =
    let a = bind_some (number_at w16 i) (λ v. cond (eqb v.0 1) (number_at w16 v.1) None) (n, j) e in
    let b = allowed (eqb a.0.0 1) (number_at w16 a.0.1) (n, j) a.2 in
    let first = number_skip w16 i a.0.0 a.0.1 a.1 in
    let second = number_skip w16 a.0.1 n j b.1 in
    let rest : drop 2 i.left ≡ a.0.1.left = ap (λ (x : Input). x.left) first.1 in
    (omega (arith, first.0, second.0, ap length rest, length-drop 2 i.left), sym (ap (λ (x : Input). x.left) second.1) ∙ (ap (drop 2) (sym rest) ∙ drop-drop 2 2 i.left))

-- a message that is kept unread
pub unread_message : (bytes body : List ℕ) (i : Input) (n : ℕ) (j : Input) → i ≡ at 0 bytes → header_at i ≡ Some (n, j) → is_unread n ≡ true → body ≡ drop 4 bytes
    → message_at bytes ≡ Some (messages.Unread n body)
unfolding message_at
unread_message bytes body i n j start e unread is =
    let head : header_at (at 0 bytes) ≡ Some (n, j) = ap header_at (sym start) ∙ e in
    let rest = header_rest (at 0 bytes) n j head in
    let whole = unread_again n j unread ∙ ap (λ (b : List ℕ). Some (messages.Unread n b)) (rest.1 ∙ sym is) in
    rw head whole

-- a header that is read leaves room before the body
pub body_begins : (bytes : List ℕ) (i : Input) (n : ℕ) (j : Input) → i ≡ at 0 bytes → header_at i ≡ Some (n, j) → 4 ≤ length bytes
body_begins bytes i n j start e = (header_rest (at 0 bytes) n j (ap header_at (sym start) ∙ e)).0
