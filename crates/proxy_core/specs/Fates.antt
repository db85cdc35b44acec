-- What the fate of a command says. Source: the Redis Cluster specification, in which a node that answers
-- MOVED or ASK does not serve the command; and that a command whose reply did not come may have been done
-- or not.
use Rattle.std.specs.Prelude.{Bool, true, false}
use Rattle.proxy_core.specs.declared.outcome.Fate.{Fate}
use Rattle.proxy_core.specs.declared.outcome.Fate.TheVariants.{Answered, Redirected, NotAsked, Lost}

-- whether a command with this fate may have been done
abbrev pub may_be_done : Fate → Bool
may_be_done Answered = true
may_be_done Redirected = false
may_be_done NotAsked = false
may_be_done Lost = true
