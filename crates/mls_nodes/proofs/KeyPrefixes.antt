-- The bytes of the 8-byte prefix of a key.
use Rattle.std.proofs.Common.{◌≡◌, ◌∙◌, ℕ, ◌-◌, ◌+◌, ◌<◌, ◌≤◌, List, ◌++◌, length, take, drop, replicate, sym, ap, arith}
use Rattle.std.specs.Int.{w64, from_be_bytes}
use Rattle.std.proofs.Math.Seq.{take-append-add}
use Rattle.std.proofs.lemmas.List.{take-append-le, take-replicate, drop-replicate}
use Rattle.mls_nodes.specs.KeyPrefix.{key_prefix}

pub key_prefix-long : (key front : List ℕ) → 8 ≤ length key → front ≡ take 8 key
    → from_be_bytes w64 front ≡ key_prefix key
unfolding key_prefix
key_prefix-long key front long same =
    ap (from_be_bytes w64) (same ∙ sym (take-append-le 8 key (replicate 8 0) long))

padded : (key : List ℕ) → length key < 8
    → key ++ drop (length key) (replicate 8 0) ≡ take 8 (key ++ replicate 8 0)
padded key short =
    let capacity : ℕ = 8 - length key in
    let whole : length key + capacity ≡ 8 = omega arith in
    let zeros = drop-replicate (length key) 8 0 ∙ sym (take-replicate capacity 8 0 (omega arith)) in
    ap (λ ys. key ++ ys) zeros
    ∙ sym (take-append-add key (replicate 8 0) capacity)
    ∙ ap (λ n. take n (key ++ replicate 8 0)) whole

pub key_prefix-short : (key bytes : List ℕ) → length key < 8
    → bytes ≡ key ++ drop (length key) (replicate 8 0) → from_be_bytes w64 bytes ≡ key_prefix key
unfolding key_prefix
key_prefix-short key bytes short same = ap (from_be_bytes w64) (same ∙ padded key short)
