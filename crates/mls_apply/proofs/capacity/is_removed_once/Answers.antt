use Rattle.std.proofs.Common.{sym, ◌∙◌, ◌*◌, arith}
use Rattle.mls_apply.proofs.LackingRoom.{window_twice, windows_once}
use Rattle.mls_apply.proofs.capacity.is_removed_once.Goals as goal

pub returns-then-not-is_removed_once_in : goal.returns-then-not-is_removed_once_in
returns-then-not-is_removed_once_in c =
    window_twice (c.loop-window.window * 65536) c.args.items.now (sym c.is_removed_once_in.ensures ∙ c.if-not-is_removed_once_in.true)

pub returns : goal.returns
returns c = sym (windows_once c.args.items.now c.requires (λ w within. c.loop-window.invariant w (omega (arith, within, c.loop-window-test.false))))
