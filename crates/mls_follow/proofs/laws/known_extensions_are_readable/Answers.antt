use Rattle.mls_follow.proofs.KnownReadable.{followers_readable, commit_readable}
use Rattle.mls_follow.proofs.laws.known_extensions_are_readable.Goals as goal

pub returns : goal.returns
returns c = record { always = followers_readable; commits = commit_readable }
