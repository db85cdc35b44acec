use Rattle.cluster_client.proofs.client.ClusterClient.play_one.Goals as goal

pub returns : goal.returns
returns g c = record { moved = rw c.replace-asked.ensures.after c.new.ensures.items; made = rw c.replace-asked.ensures.value c.answer_to-answer.ensures }
