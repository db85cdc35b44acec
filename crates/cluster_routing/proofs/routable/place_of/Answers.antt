use Rattle.cluster_routing.proofs.Replies.{place_in_items}
use Rattle.cluster_routing.proofs.routable.place_of.Goals as goal

pub returns : goal.returns
returns c = place_in_items c.args.word.now c.args.items.now c.first_word.result c.first_word.ensures.first c.first_word.ensures.fits
