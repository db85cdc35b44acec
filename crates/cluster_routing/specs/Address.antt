-- Addresses of nodes, and how they are written: host, colon, port (documentation of the crate `redis`).
use Rattle.std.specs.Prelude.{ℕ, ◌^◌, Bool, false, not, ◌&&◌, ◌==◌, if◌then◌else◌, List, [], ◌∷◌, ◌++◌, reverse, Option, Some, None, option_and_then, decimal, bytes_eq}
use Rattle.std.specs.Hash as fed
use Rattle.std.specs.Ordering.{nat_cmp, match_ordering}
use Rattle.std.specs.Cmp.Lexicographic.{slice_cmp}
use Rattle.std.specs.declared.cmp.Ordering.{Ordering}
use Rattle.std.specs.declared.cmp.Ordering.TheVariants.{Less, Greater}
use Rattle.resp_core.specs.Numbers.{number_below}

-- a node's address: the bytes of its host, and its port
pub record Address : Type 0 where
  pub host : List ℕ
  pub port : ℕ

-- whether two addresses are one
abbrev pub same_address : Address → Address → Bool
same_address a b = bytes_eq a.host b.host && a.port == b.port

-- by the bytes of the host, then by the port
abbrev pub address_cmp : Address → Address → Ordering
address_cmp a b = match_ordering (slice_cmp nat_cmp a.host b.host) Less (nat_cmp a.port b.port) Greater

-- what a hasher is fed: the host as a text, then the port (documentation of Rust's `Hash`)
abbrev pub hashed_address : Address → List (List ℕ)
hashed_address a = fed.str a.host ++ fed.u16 a.port

-- the text of an address
abbrev pub written : Address → List ℕ
written a = a.host ++ 58 ∷ decimal a.port

-- what stands before the last byte c, and what behind it
abbrev pub cut_here : ℕ → ℕ → List ℕ → Option (List ℕ × List ℕ) → Option (List ℕ × List ℕ)
cut_here c b bs (Some p) = Some (b ∷ p.0, p.1)
cut_here c b bs None = if b == c then Some ([], bs) else None

abbrev pub cut_last : ℕ → List ℕ → Option (List ℕ × List ℕ)
cut_last c [] = None
cut_last c (b ∷ bs) = cut_here c b bs (cut_last c bs)

-- without each byte c at the front, or at the end
abbrev pub without_front : ℕ → List ℕ → List ℕ
without_front c [] = []
without_front c (b ∷ bs) = if b == c then without_front c bs else b ∷ bs

abbrev pub without_end : ℕ → List ℕ → List ℕ
without_end c bs = reverse (without_front c (reverse bs))

-- a host and a port; none where the host is empty
abbrev pub address_with : ℕ → List ℕ → Option Address
address_with port [] = None
address_with port (b ∷ bs) = Some (record { host = b ∷ bs; port = port })

-- a host without the brackets around it, and a port that is a number below 2^16
abbrev pub address_of : List ℕ × List ℕ → Option Address
address_of p = option_and_then (λ port. address_with port (without_end 93 (without_front 91 p.0)))
    (number_below (2 ^ 16) p.1)

-- the address that a text spells: it is cut at its last colon
abbrev pub address_read : List ℕ → Option Address
address_read text = option_and_then address_of (cut_last 58 text)

-- a host that is not empty, begins with no `[` and ends with no `]`
abbrev pub begins_plain : List ℕ → Bool
begins_plain [] = false
begins_plain (b ∷ bs) = not (b == 91)

abbrev pub ends_plain : List ℕ → Bool
ends_plain [] = false
ends_plain (b ∷ bs) = not (b == 93)

abbrev pub is_plain : List ℕ → Bool
is_plain host = begins_plain host && ends_plain (reverse host)
