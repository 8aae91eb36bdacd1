use Rattle.std.proofs.Common.{rules, arith, ◌≡◌, ◌<◌, List, ℕ, [], ◌∷◌, ◌++◌, length, inr}
use Rattle.mls_wire.proofs.KnownBytes.{Consumes-trans}
use Rattle.mls_wire.proofs.Logs.{meets_fault, body_cut, body_bytes}
use Rattle.mls_wire.proofs.log.next_step.Goals as goal

pub returns-in_err-size-clause-record_read : goal.returns-in_err-size-clause-record_read
returns-in_err-size-clause-record_read g c =
    let first = rw c.in-Some.is at c.in_ok-first.ensures.byte in
    let (more, taken, cut) = c.in_err-size.ensures.effect_on_error in
    let some : 0 < c.args.most = omega (arith, c.if-most-eq0.false) in
    meets_fault _ _ _ _ (c.in-Some.first ∷ more) c.from_residual-in_err-size.result (search rules) (search rules) (Consumes-trans _ _ _ (c.in-Some.first ∷ []) more first taken) (inr (some, cut))

pub returns-in_default-2-clause-record_read : goal.returns-in_default-2-clause-record_read
returns-in_default-2-clause-record_read g c =
    let first = rw c.in-Some.is at c.in_ok-first.ensures.byte in
    let (more, taken, broken) = c.in_ok-size.ensures.size in
    let some : 0 < c.args.most = omega (arith, c.if-most-eq0.false) in
    (c.in-Some.first ∷ more, Consumes-trans _ _ _ (c.in-Some.first ∷ []) more first taken, inr (some, rw c.in_default-2.is at broken))

pub returns-in_err-read_body-clause-record_read : goal.returns-in_err-read_body-clause-record_read
returns-in_err-read_body-clause-record_read g c =
    let first = rw c.in-Some.is at c.in_ok-first.ensures.byte in
    let (more, taken, sized) = c.in_ok-size.ensures.size in
    let form = rw c.in-Some-2.is at sized in
    let (got, short, body) = c.in_err-read_body.ensures.effect_on_error in
    let some : 0 < c.args.most = omega (arith, c.if-most-eq0.false) in
    let unread_log = Consumes-trans _ _ _ (c.in-Some.first ∷ []) more first taken in
    meets_fault _ _ _ _ (c.in-Some.first ∷ (more ++ got)) c.from_residual-in_err-read_body.result (search rules) (search rules) (Consumes-trans _ _ _ (c.in-Some.first ∷ more) got unread_log body)
    (inr (some, body_cut c.in-Some-2.size c.in-Some.first more got form.1 form.0 short))

pub returns-then-len-size-clause-record_read : goal.returns-then-len-size-clause-record_read
returns-then-len-size-clause-record_read g c =
    let first = rw c.in-Some.is at c.in_ok-first.ensures.byte in
    let (more, taken, sized) = c.in_ok-size.ensures.size in
    let form = rw c.in-Some-2.is at sized in
    let got : List ℕ = c.read_body.new.body.items in
    let short : length got < c.in-Some-2.size = omega (arith, c.if-len-size.true, c.len.ensures) in
    let some : 0 < c.args.most = omega (arith, c.if-most-eq0.false) in
    let unread_log = Consumes-trans _ _ _ (c.in-Some.first ∷ []) more first taken in
    (c.in-Some.first ∷ (more ++ got), Consumes-trans _ _ _ (c.in-Some.first ∷ more) got unread_log c.in_ok-read_body.ensures.bytes, inr (some, inr (body_cut c.in-Some-2.size c.in-Some.first more got form.1 form.0 short, c.in_ok-read_body.ensures.end short)))

pub returns-clause-record_read : goal.returns-clause-record_read
returns-clause-record_read g c =
    let first = rw c.in-Some.is at c.in_ok-first.ensures.byte in
    let (more, taken, sized) = c.in_ok-size.ensures.size in
    let form = rw c.in-Some-2.is at sized in
    let got : List ℕ = c.read_body.new.body.items in
    let len : length got ≡ c.in-Some-2.size = omega (arith, c.if-len-size.false, c.len.ensures, c.in_ok-read_body.ensures.bound) in
    let some : 0 < c.args.most = omega (arith, c.if-most-eq0.false) in
    let unread_log = Consumes-trans _ _ _ (c.in-Some.first ∷ []) more first taken in
    (some, c.in-Some.first ∷ (more ++ got), Consumes-trans _ _ _ (c.in-Some.first ∷ more) got unread_log c.in_ok-read_body.ensures.bytes, body_bytes c.in-Some-2.size c.in-Some.first more got form.1 form.0 len)
