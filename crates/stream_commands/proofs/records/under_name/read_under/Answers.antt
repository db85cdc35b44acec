use Rattle.std.proofs.Common.{◌≡◌, Some, None, refl}
use Rattle.resp_core.specs.View.{view}
use Rattle.stream_commands.specs.RecordViews.{fields_view}
use Rattle.stream_commands.specs.UnderNames.{under}
use Rattle.stream_commands.proofs.Lookups.{under-found}
use Rattle.stream_commands.proofs.records.under_name.read_under.Goals as goal

pub returns-in-Some : goal.returns-in-Some
returns-in-Some g c = let e : under c.args.name.now (fields_view c.args.fields.now) ≡ Some (view c.in-Some.value.now) = under-found c.args.name.now c.args.fields.now (Some c.in-Some.value.now) c.in-Some.ensures.value in rw e c.from_redis_value_ref.ensures

pub returns-in-None : goal.returns-in-None
returns-in-None g c = let e : under c.args.name.now (fields_view c.args.fields.now) ≡ None = under-found c.args.name.now c.args.fields.now None c.in-None.ensures.value in rw e refl
