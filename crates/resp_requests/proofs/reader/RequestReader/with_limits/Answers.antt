use Rattle.resp_requests.proofs.Searchings.{none_searched}
use Rattle.resp_requests.proofs.reader.RequestReader.with_limits.Goals as goal

pub invariant_of-result-clause-searches : goal.invariant_of-result-clause-searches
invariant_of-result-clause-searches c = none_searched _ _ _
