-- The lines of requests, and of the bytes that went out to a node.
-- Source: the session language is this repository's own (docs/SESSIONS.md).
use Rattle.std.specs.Prelude.{ℕ, Bool, true, false, List, ◌++◌, codes}
use Rattle.std.specs.List.{flat_map}
use Rattle.cluster_routing.specs.Address.{Address, written}
use Rattle.cluster_calls.specs.Links.Request.{Request}
use Rattle.cluster_session.specs.Printed.{hex_word}

-- whether ASKING went before a request
abbrev pub manner_word : Bool → List ℕ
manner_word true = codes "asking"
manner_word false = codes "plain"

-- the line of a request: its node, its manner, and its arguments with a space before each
abbrev pub request_line : Request → List ℕ
request_line request =
    codes "asked " ++ (written request.node ++ (codes " " ++ (manner_word request.asking
    ++ (flat_map (λ arg. codes " " ++ hex_word arg) request.args ++ codes "\n"))))

-- the line of all bytes that went out to a node
abbrev pub sent_line : Address → List ℕ → List ℕ
sent_line node bytes = codes "sent " ++ (written node ++ (codes " " ++ (hex_word bytes ++ codes "\n")))
