-- Link calls that were made so far, and what they left of the client: its log has grown by their requests, its flag says whether one was answered MOVED, and all else of it stays.
use Rattle.std.specs.Prelude.{◌||◌}
use Rattle.std.proofs.Common.{◌≡◌, Bool, List, [], ◌∷◌, ◌++◌, refl, sym, ap, ◌∙◌, subst, append-nil, append_assoc}
use Rattle.cluster_calls.specs.Links.Events.{Event, LinkCalled, Runs, answered_moved, log_of}
use Rattle.cluster_calls.specs.Links.Happened.{client_of}
use Rattle.cluster_calls.specs.Links.World.{World, open_links}
use Rattle.cluster_calls.proofs.Lists.{or_none, or_assoc}
use Rattle.cluster_calls.proofs.LinkLaws.EventLists.{log-append, moved-append}
use Rattle.cluster_calls.proofs.LinkLaws.LinkRuns.{Runs-append}

-- what stays in a world over one request
pub record Keeps (now new : World) : Type 0 where
  pub entries : new.entries ≡ now.entries
  pub settings : new.settings ≡ now.settings
  pub picked : new.picked ≡ now.picked

pub record Grown (old now : World) (events : List Event) : Type 0 where
  pub runs : Runs old.nodes now.nodes events
  pub logged : now.log ≡ old.log ++ log_of events
  pub flag : now.needs_refresh ≡ (old.needs_refresh || answered_moved events)
  pub keeps : Keeps old now

pub grown_none : (old : World) → Grown old old []
grown_none old = record { runs = refl; logged = sym (append-nil old.log); flag = sym (or_none old.needs_refresh); keeps = record { entries = refl; settings = refl; picked = refl } }

-- by these link calls, and then by those
pub grown_more : (old now new : World) (xs ys : List Event) → Grown old now xs → Grown now new ys → Grown old new (xs ++ ys)
grown_more old now new xs ys g h = record {
  runs = Runs-append old.nodes now.nodes new.nodes xs ys g.runs h.runs;
  logged = h.logged ∙ ap (λ qs. qs ++ log_of ys) g.logged ∙ append_assoc old.log (log_of xs) (log_of ys) ∙ ap (λ qs. old.log ++ qs) (sym (log-append xs ys));
  flag = h.flag ∙ ap (λ b. b || answered_moved ys) g.flag ∙ sym (or_assoc old.needs_refresh (answered_moved xs) (answered_moved ys)) ∙ ap (λ b. old.needs_refresh || b) (sym (moved-append xs ys));
  keeps = record { entries = h.keeps.entries ∙ g.keeps.entries; settings = h.keeps.settings ∙ g.keeps.settings; picked = h.keeps.picked ∙ g.keeps.picked };
}

-- by one link call more
pub grown_one : (old now new : World) (xs : List Event) (x : Event) (moved : Bool) → Grown old now xs → LinkCalled now.nodes new.nodes x → new.log ≡ now.log ++ x.requests → new.needs_refresh ≡ (now.needs_refresh || moved) → answered_moved (x ∷ []) ≡ moved → Keeps now new
    → Grown old new (xs ++ x ∷ [])
grown_one old now new xs x moved g called log flag is same = grown_more old now new xs (x ∷ []) g (record {
  runs = (new.nodes, called, refl);
  logged = log ∙ ap (λ qs. now.log ++ qs) (sym (append-nil x.requests));
  flag = flag ∙ ap (λ b. now.needs_refresh || b) (sym is);
  keeps = same;
})

-- nothing more was done
pub grown_same : (old now new : World) (xs : List Event) → Grown old now xs → new.nodes ≡ now.nodes → new.log ≡ now.log → new.needs_refresh ≡ now.needs_refresh → Keeps now new → Grown old new xs
grown_same old now new xs g nodes log flag same = record {
  runs = subst (λ ns. Runs old.nodes ns xs) (sym nodes) g.runs;
  logged = log ∙ g.logged;
  flag = flag ∙ g.flag;
  keeps = record { entries = same.entries ∙ g.keeps.entries; settings = same.settings ∙ g.keeps.settings; picked = same.picked ∙ g.keeps.picked };
}

-- with the same links open the client is planned for as before
pub same_client : (old now : World) (events : List Event) → Grown old now events → open_links now.nodes ≡ open_links old.nodes → client_of now ≡ client_of old
same_client old now events g opens = let s = g.keeps.settings in let e = g.keeps.entries in λ i. record { settings = s i; entries = e i; links = opens i }
