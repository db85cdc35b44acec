-- The routing table: which names of commands go where (Redis command documentation; documentation of the
-- crate `redis`).
use Rattle.std.specs.Prelude.{ℕ, Bool, true, false, ◌==◌, ◌&&◌, if◌then◌else◌, List, [], ◌∷◌, Option, Some, None, codes}
use Rattle.cluster_routing.specs.Command.{is_one_of}
use Rattle.cluster_routing.specs.declared.policy.ResponsePolicy.{ResponsePolicy}
use Rattle.cluster_routing.specs.declared.policy.ResponsePolicy.TheVariants.{OneSucceeded, FirstSucceededNonEmptyOrAllEmpty, AllSucceeded, AggregateLogical, Aggregate, CombineArrays, Special, CombineMaps}
use Rattle.cluster_routing.specs.declared.policy.AggregateOp.TheVariants.{Min, Sum}
use Rattle.cluster_routing.specs.declared.policy.LogicalAggregateOp.TheVariants.{And}
use Rattle.cluster_routing.specs.declared.policy.MultiSlotArgPattern.{MultiSlotArgPattern}
use Rattle.cluster_routing.specs.declared.policy.MultiSlotArgPattern.TheVariants.{KeysOnly, KeyValuePairs, KeysAndLastArg, KeyWithTwoArgTriples}

-- where a command of a name goes; places count the word as 0
pub data Rule : Type 0 where
  -- to the slots of the keys in its tuples
  split : MultiSlotArgPattern → ResponsePolicy → Rule
  -- to the key behind the first argument STREAMS
  key_after_streams : Rule
  -- to the key behind the number at this place; at number 0 to any node
  counted_key_or_random : ℕ → Rule
  -- the same; at number 0 nowhere
  counted_key : ℕ → Rule
  -- to the key at this place
  key_at : ℕ → Rule
  random : Rule
  all_masters : ResponsePolicy → Rule
  all_nodes : ResponsePolicy → Rule
  nowhere : Rule

pub record Row : Type 0 where
  pub names : List (List ℕ)
  pub rule : Rule

abbrev pub row : List (List ℕ) → Rule → Row
row names rule = record { names = names; rule = rule }

unfoldable pub table : List Row
table =
    row (codes "MGET" ∷ []) (split KeysOnly CombineArrays)
    ∷ row (codes "DEL" ∷ codes "EXISTS" ∷ codes "UNLINK" ∷ codes "TOUCH" ∷ [])
    (split KeysOnly (Aggregate Sum))
    ∷ row (codes "WATCH" ∷ []) (split KeysOnly AllSucceeded)
    ∷ row (codes "MSET" ∷ []) (split KeyValuePairs AllSucceeded)
    ∷ row (codes "JSON.MGET" ∷ []) (split KeysAndLastArg CombineArrays)
    ∷ row (codes "JSON.MSET" ∷ []) (split KeyWithTwoArgTriples AllSucceeded)
    ∷ row (codes "XREAD" ∷ codes "XREADGROUP" ∷ []) key_after_streams
    ∷ row (codes "EVAL" ∷ codes "EVALSHA" ∷ codes "EVAL_RO" ∷ codes "EVALSHA_RO" ∷ codes "FCALL"
    ∷ codes "FCALL_RO" ∷ []) (counted_key_or_random 2)
    ∷ row (codes "BLMPOP" ∷ codes "BZMPOP" ∷ []) (counted_key 2)
    ∷ row (codes "LMPOP" ∷ codes "ZMPOP" ∷ codes "SINTERCARD" ∷ codes "ZUNION" ∷ codes "ZINTER"
    ∷ codes "ZDIFF" ∷ codes "ZINTERCARD" ∷ []) (counted_key 1)
    ∷ row (codes "BITOP"
    ∷ codes "XINFO STREAM" ∷ codes "XINFO GROUPS" ∷ codes "XINFO CONSUMERS"
    ∷ codes "XGROUP CREATE" ∷ codes "XGROUP CREATECONSUMER" ∷ codes "XGROUP DELCONSUMER"
    ∷ codes "XGROUP DESTROY" ∷ codes "XGROUP SETID"
    ∷ codes "OBJECT ENCODING" ∷ codes "OBJECT FREQ" ∷ codes "OBJECT IDLETIME" ∷ codes "OBJECT REFCOUNT"
    ∷ codes "MEMORY USAGE" ∷ []) (key_at 2)
    ∷ row (codes "ECHO" ∷ codes "TIME" ∷ codes "PUBLISH" ∷ codes "LASTSAVE" ∷ []) random
    ∷ row (codes "FLUSHALL" ∷ codes "FLUSHDB" ∷ codes "PING" ∷ []) (all_masters AllSucceeded)
    ∷ row (codes "DBSIZE" ∷ []) (all_masters (Aggregate Sum))
    ∷ row (codes "KEYS" ∷ []) (all_masters CombineArrays)
    ∷ row (codes "WAIT" ∷ []) (all_masters (Aggregate Min))
    ∷ row (codes "SCRIPT EXISTS" ∷ []) (all_masters (AggregateLogical And))
    ∷ row (codes "RANDOMKEY" ∷ []) (all_masters FirstSucceededNonEmptyOrAllEmpty)
    ∷ row (codes "CONFIG SET" ∷ codes "CONFIG RESETSTAT" ∷ codes "SLOWLOG RESET" ∷ codes "SCRIPT FLUSH"
    ∷ codes "SCRIPT LOAD" ∷ []) (all_nodes AllSucceeded)
    ∷ row (codes "SCRIPT KILL" ∷ []) (all_nodes OneSucceeded)
    ∷ row (codes "PUBSUB NUMSUB" ∷ []) (all_nodes CombineMaps)
    ∷ row (codes "INFO" ∷ []) (all_nodes Special)
    ∷ row (codes "SCAN" ∷ codes "AUTH" ∷ codes "HELLO" ∷ codes "SELECT" ∷ codes "MULTI" ∷ codes "EXEC"
    ∷ codes "DISCARD"
    ∷ codes "SUBSCRIBE" ∷ codes "PSUBSCRIBE" ∷ codes "SSUBSCRIBE" ∷ codes "UNSUBSCRIBE" ∷ codes "PUNSUBSCRIBE"
    ∷ codes "SUNSUBSCRIBE"
    ∷ codes "CLUSTER" ∷ codes "READONLY" ∷ codes "READWRITE" ∷ codes "ASKING" ∷ codes "MONITOR" ∷ codes "QUIT"
    ∷ codes "RESET"
    ∷ codes "SHUTDOWN" ∷ codes "CLIENT" ∷ codes "MIGRATE" ∷ []) nowhere
    ∷ []

-- the words whose name has the second argument too
abbrev pub families : List (List ℕ)
families = codes "XGROUP" ∷ codes "XINFO" ∷ codes "OBJECT" ∷ codes "MEMORY" ∷ codes "CONFIG" ∷ codes "SLOWLOG"
    ∷ codes "SCRIPT" ∷ codes "PUBSUB" ∷ codes "FUNCTION" ∷ codes "MODULE" ∷ codes "COMMAND" ∷ codes "ACL"
    ∷ codes "LATENCY" ∷ []

abbrev pub is_family : List ℕ → Bool
is_family word = is_one_of families word

-- the rule of the first row that lists the name, else the other
abbrev pub rule_in : List Row → List ℕ → Rule → Rule
rule_in [] name other = other
rule_in (r ∷ rs) name other = if is_one_of r.names name then r.rule else rule_in rs name other

-- every other name of a family goes nowhere, every other word to its first argument: this project's own rule,
-- since the Redis documentation has commands without a key there (SWAPDB 0 1 goes to the slot of the key 0)
abbrev pub other_rule : Bool → Rule
other_rule family = if family then nowhere else key_at 1

-- the rule of a name
unfoldable pub rule_of : List ℕ → Bool → Rule
rule_of name family = rule_in table name (other_rule family)

-- how the replies of several nodes become one, by the rule or by the name
abbrev pub policy_by : Rule → Option ResponsePolicy
policy_by (split pattern policy) = Some policy
policy_by (all_masters policy) = Some policy
policy_by (all_nodes policy) = Some policy
policy_by _ = None

-- a number for each rule, and whether two rules are one
abbrev pub pattern_number : MultiSlotArgPattern → ℕ
pattern_number KeysOnly = 0
pattern_number KeyValuePairs = 1
pattern_number KeysAndLastArg = 2
pattern_number KeyWithTwoArgTriples = 3

abbrev pub policy_number : ResponsePolicy → ℕ
policy_number OneSucceeded = 0
policy_number FirstSucceededNonEmptyOrAllEmpty = 1
policy_number AllSucceeded = 2
policy_number (AggregateLogical And) = 3
policy_number (Aggregate Min) = 4
policy_number (Aggregate Sum) = 5
policy_number CombineArrays = 6
policy_number Special = 7
policy_number CombineMaps = 8

abbrev pub same_rule : Rule → Rule → Bool
same_rule (split pattern policy) (split pattern' policy') = pattern_number pattern == pattern_number pattern'
    && policy_number policy == policy_number policy'
same_rule key_after_streams key_after_streams = true
same_rule (counted_key_or_random place) (counted_key_or_random place') = place == place'
same_rule (counted_key place) (counted_key place') = place == place'
same_rule (key_at place) (key_at place') = place == place'
same_rule random random = true
same_rule (all_masters policy) (all_masters policy') = policy_number policy == policy_number policy'
same_rule (all_nodes policy) (all_nodes policy') = policy_number policy == policy_number policy'
same_rule nowhere nowhere = true
same_rule _ _ = false
