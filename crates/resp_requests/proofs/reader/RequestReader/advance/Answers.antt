use Rattle.std.proofs.Common.{◌≡◌, ◌+◌, ◌-◌, ◌<◌, ◌≤◌, ℕ, List, [], ◌∷◌, ◌++◌, length, take, drop, Ok, Vec, refl, sym, ap, subst, ◌∙◌, arith}
use Rattle.std.proofs.lemmas.List.{drop_all}
use Rattle.resp_requests.proofs.Standings.{nothing_stops}
use Rattle.resp_requests.proofs.reader.RequestReader.advance.Goals as goal

pub returns-then-self-len-clause-advances : goal.returns-then-self-len-clause-advances
returns-then-self-len-clause-advances c =
    let r = c.args.self.now in
    let empty : drop r.front r.buffer.items ≡ [] = drop_all r.front r.buffer.items (omega arith) in
    nothing_stops r empty
