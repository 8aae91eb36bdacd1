-- A call on the follower of a handle: what the handle had, and what it has.
use Rattle.std.proofs.Common.{◌≡◌, subst}
use Rattle.std.specs.Prelude.{Option, Some, IfSome}
use Rattle.mls_c.specs.Messages.{Moves}
use Rattle.mls_c.specs.declared.group_follower.GroupFollower.{GroupFollower}

pub moves : (held new : Option GroupFollower) (f g : GroupFollower) (P : GroupFollower → GroupFollower → Type 0) → Some f ≡ held → new ≡ Some g → P f g → Moves held new P
moves held new f g P was is p = subst (λ (h : Option GroupFollower). Moves h new P) was (g, is, p)

pub of_held : (held : Option GroupFollower) (f : GroupFollower) (P : GroupFollower → Type 0) → Some f ≡ held → P f → IfSome held P
of_held held f P was p = subst (λ (h : Option GroupFollower). IfSome h P) was p
