-- The readers over the unread bytes of an owned input, as an entry is read.
use Rattle.std.proofs.Common.{◌≡◌, ℕ, ◌+◌, ◌-◌, ◌≤◌, false, List, [], ◌++◌, length, take, drop, Option, Some, None, Ok, sym, ap, subst, ◌∙◌, append_assoc, arith, length-append}
use Rattle.std.specs.Prelude.{◌↔◌, IfSome, slice_range}
use Rattle.std.proofs.lemmas.List.{take_at, drop_at, drop-drop, take-append-drop, length-take-le, length-drop}
use Rattle.mls_wire.specs.Input.{Input, at}
use Rattle.mls_wire.specs.Parsing.{body_at}
use Rattle.mls_wire.specs.Encoding.{vector, length_form, optional}
use Rattle.mls_wire.specs.EncodingConcat.{joined}
use Rattle.mls_wire.specs.OptionBind.{some_is}
use Rattle.mls_wire.specs.VectorsExact.{body_takes}
use Rattle.mls_nodes.specs.Layout.{node}
use Rattle.mls_nodes.specs.NodeModel.{NodeValue}
use Rattle.mls_nodes.specs.NodeValues.{entry_value}
use Rattle.mls_nodes.specs.RatchetTreeEncoding.{ratchet_tree}
use Rattle.mls_nodes.proofs.RestOfTree.{rest_whole}
use Rattle.mls_nodes.specs.ParsingInternal.{rest_at, reader_model, unread_model}
use Rattle.mls_nodes.specs.RatchetTreeReading.{RatchetTreeReaderModel, ReadsEntry}
use Rattle.mls_nodes.specs.declared.node.Node.{Node}
use Rattle.mls_nodes.specs.declared.ratchet_tree.progress.Progress.{Progress}

-- the two inputs that these bytes are
unread_inputs : (offset count : ℕ) (bytes : List ℕ) (body after : Input) → offset ≡ body.offset → count ≡ length body.left → after.offset ≡ body.offset + length body.left
    → bytes ≡ body.left ++ after.left → (at (offset + count) (drop count bytes) ≡ after) × (at offset (take count bytes) ≡ body)
unread_inputs offset count bytes body after begins long ends same =
    let front : take count bytes ≡ body.left = ap (take count) same ∙ take_at body.left after.left count (sym long) in
    let back : drop count bytes ≡ after.left = ap (drop count) same ∙ drop_at body.left after.left count (sym long) in
    let end : offset + count ≡ after.offset = omega arith in
    (ap (λ (s : List ℕ). at (offset + count) s) back ∙ ap (λ (n : ℕ). at n after.left) end, ap (λ (s : List ℕ). at offset s) front ∙ ap (λ (n : ℕ). at n body.left) begins)

-- the model of the reader of these two inputs
unread_is : (p : Progress) (offset count : ℕ) (bytes : List ℕ) (body after : Input) → offset ≡ body.offset → count ≡ length body.left → after.offset ≡ body.offset + length body.left
    → bytes ≡ body.left ++ after.left → unread_model p offset count bytes ≡ reader_model p after body
unread_is p offset count bytes body after begins long ends same =
    let both = unread_inputs offset count bytes body after begins long ends same in
    ap (λ (i : Input). reader_model p i (at offset (take count bytes))) both.0 ∙ ap (λ (i : Input). reader_model p after i) both.1

-- where the body of a vector is
pub vector_parts : (bytes : List ℕ) (body after : Input) → body_at (at 0 bytes) ≡ Some (body, after)
    → (drop body.offset bytes ≡ body.left ++ after.left) × (after.offset ≡ body.offset + length body.left) × (body.offset + length body.left ≤ length bytes)
unfolding vector
vector_parts bytes body after read =
    let t = body_takes (at 0 bytes) body after read in
    let b = joined (length_form (length body.left)) (Some body.left) t.0.0 t.0.1 in
    let front : t.0.0 ≡ b.0 ++ body.left = b.4 ∙ ap (λ (s : List ℕ). b.0 ++ s) (sym (some_is _ _ b.3)) in
    let whole : bytes ≡ b.0 ++ (body.left ++ after.left) = t.0.2 ∙ ap (λ (s : List ℕ). s ++ after.left) front ∙ append_assoc b.0 body.left after.left in
    let long : length t.0.0 ≡ length b.0 + length body.left = ap length front ∙ length-append b.0 body.left in
    let start : length b.0 ≡ body.offset = omega (arith, t.1, t.0.3) in
    (ap (drop body.offset) whole ∙ drop_at b.0 (body.left ++ after.left) body.offset start, sym t.1, omega (arith, t.1, t.0.3, ap length t.0.2, length-append t.0.0 after.left))

-- the entries to be read at the start are those of the tree
pub whole_unread : (bytes slice : List ℕ) (body after : Input) (next count : ℕ) → slice ≡ bytes → body_at (at 0 slice) ≡ Some (body, after) → next ≡ body.offset → count ≡ length body.left
    → (nodes : List (Option NodeValue)) → (rest_at 0 false (at (next + count) (drop count (drop next bytes))) (at next (take count (drop next bytes))) ≡ Some nodes) ↔ (ratchet_tree nodes ≡ Some bytes)
whole_unread bytes slice body after next count same read begins long nodes =
    let there : body_at (at 0 bytes) ≡ Some (body, after) = ap (λ (s : List ℕ). body_at (at 0 s)) (sym same) ∙ read in
    let parts = vector_parts bytes body after there in
    let both = unread_inputs next count (drop next bytes) body after (omega arith) long parts.1 (ap (λ (n : ℕ). drop n bytes) begins ∙ parts.0) in
    let whole = rest_whole bytes body after there nodes in
    let is : rest_at 0 false (at (next + count) (drop count (drop next bytes))) (at next (take count (drop next bytes))) ≡ rest_at 0 false after body =
    ap (λ (i : Input). rest_at 0 false i (at next (take count (drop next bytes)))) both.0 ∙ ap (λ (i : Input). rest_at 0 false after i) both.1 in
    (λ e. whole.0 (sym is ∙ e), λ e. is ∙ whole.1 e)

-- the entry read is what was before the unread bytes
entry_between : (o : Option (Option Node)) (old new : RatchetTreeReaderModel) → ReadsEntry old new (Ok o)
    → (encoding : List ℕ) × (old.unread ≡ encoding ++ new.unread) × IfSome o (λ x. optional node (entry_value x) ≡ Some encoding)
entry_between None old new read = ([], sym (ap (λ (m : RatchetTreeReaderModel). m.unread) read.1), tt)
entry_between (Some x) old new read = (read.3.0, read.3.2, read.3.1)

-- the bytes after the entry
moved : (p : Progress) (bytes encoding : List ℕ) (next count left : ℕ) (body after body' : Input)
    → body ≡ at next (take count (drop next bytes)) → after ≡ at (next + count) (drop count (drop next bytes)) → next + count ≤ length bytes
    → body.left ≡ encoding ++ body'.left → body'.offset + length body'.left ≡ body.offset + length body.left → left ≡ length body'.left
    → (unread_model p (next + (count - left)) left (drop (next + (count - left)) bytes) ≡ reader_model p after body') × (slice_range bytes next (next + (count - left)) ≡ encoding)
moved p bytes encoding next count left body after body' is_body is_after inside read end long =
    let unread = drop next bytes in
    let capacity : count ≤ length unread = omega (arith, length-drop next bytes) in
    let size : length body.left ≡ count = ap (λ (i : Input). length i.left) is_body ∙ length-take-le count unread capacity in
    let parts : length body.left ≡ length encoding + length body'.left = ap length read ∙ length-append encoding body'.left in
    let step : count - left ≡ length encoding = omega arith in
    let begins : body.offset ≡ next = ap (λ (i : Input). i.offset) is_body in
    let ends : after.offset ≡ next + count = ap (λ (i : Input). i.offset) is_after in
    let whole : unread ≡ encoding ++ (body'.left ++ after.left) =
    sym (take-append-drop count unread) ∙ ap (λ (s : List ℕ). s ++ drop count unread) (sym (ap (λ (i : Input). i.left) is_body)) ∙ ap (λ (s : List ℕ). body.left ++ s) (sym (ap (λ (i : Input). i.left) is_after))
    ∙ ap (λ (s : List ℕ). s ++ after.left) read ∙ append_assoc encoding body'.left after.left in
    let rest : drop (next + (count - left)) bytes ≡ body'.left ++ after.left =
    sym (drop-drop (count - left) next bytes) ∙ ap (drop (count - left)) whole ∙ drop_at encoding (body'.left ++ after.left) (count - left) (sym step) in
    let some : next + (count - left) - next ≡ count - left = omega arith in (
      unread_is p (next + (count - left)) left (drop (next + (count - left)) bytes) body' after (omega arith) long (omega arith) rest,
      ap (λ (n : ℕ). take n unread) some ∙ ap (take (count - left)) whole ∙ take_at encoding (body'.left ++ after.left) (count - left) (sym step),
    )

-- an entry was read, and its bytes are passed
pub owned_step : (o : Option (Option Node)) (p p' : Progress) (old : RatchetTreeReaderModel) (slice bytes : List ℕ) (next count left : ℕ) (body after body' : Input)
    → old ≡ unread_model p next count (drop next bytes) → slice ≡ bytes
    → body ≡ at next (take count (drop next slice)) → after ≡ at (next + count) (drop count (drop next slice)) → next + count ≤ length bytes
    → ReadsEntry (reader_model p after body) (reader_model p' after body') (Ok o) → body'.offset + length body'.left ≡ body.offset + length body.left → left ≡ length body'.left
    → ReadsEntry old (unread_model p' (next + (count - left)) left (drop (next + (count - left)) bytes)) (Ok o)
    × IfSome o (λ x. optional node (entry_value x) ≡ Some (slice_range bytes next (next + (count - left))))
owned_step o p p' old slice bytes next count left body after body' was same is_body is_after inside read end long =
    let front : body ≡ at next (take count (drop next bytes)) = is_body ∙ ap (λ (s : List ℕ). at next (take count (drop next s))) same in
    let back : after ≡ at (next + count) (drop count (drop next bytes)) = is_after ∙ ap (λ (s : List ℕ). at (next + count) (drop count (drop next s))) same in
    let between = entry_between o (reader_model p after body) (reader_model p' after body') read in
    let next_is = moved p' bytes between.0 next count left body after body' front back inside between.1 end long in
    let old_is : reader_model p after body ≡ old =
    ap (λ (i : Input). reader_model p after i) front ∙ ap (λ (i : Input). reader_model p i (at next (take count (drop next bytes)))) back ∙ sym was in
    let Before : RatchetTreeReaderModel → Type 0 = λ m. ReadsEntry m (reader_model p' after body') (Ok o) in
    let After : RatchetTreeReaderModel → Type 0 = λ m. ReadsEntry old m (Ok o) in
    let Encoded : List ℕ → Type 0 = λ s. IfSome o (λ x. optional node (entry_value x) ≡ Some s) in
    (subst After (sym next_is.0) (subst Before old_is read), subst Encoded (sym next_is.1) between.2)
