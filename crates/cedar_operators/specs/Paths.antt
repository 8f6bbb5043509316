-- What has attributes, and the steps of an extended `has`, as plain data.
use Rattle.std.specs.Prelude.{◌≡◌, ◌≢◌}
use Rattle.cedar_model.specs.Failures.{out_of_memory, fails}
use Rattle.cedar_model.specs.Operators as model
use Rattle.cedar_model.specs.Operators.{a_record, an_entity, no_container, Walk, walks_on, stops}
use Rattle.cedar_names.specs.Names.{uid_name}
use Rattle.cedar_values.specs.Sound.{whats_at}
use Rattle.cedar_errors.specs.Answers.{partial_answer}
use Rattle.cedar_operators.specs.declared.attributes.Container.{Container}
use Rattle.cedar_operators.specs.declared.attributes.Container.TheVariants as containers
use Rattle.cedar_operators.specs.declared.attributes.PathStep.{PathStep}
use Rattle.cedar_operators.specs.declared.attributes.PathStep.TheVariants as steps

abbrev pub container_view : Container → model.Container
container_view (containers.Record m) = a_record (whats_at m.now.entries)
container_view (containers.Entity u) = an_entity (uid_name u.now.value)
container_view containers.Neither = no_container

abbrev pub walk_view : PathStep → Walk
walk_view (steps.WalksOn v) = walks_on v.now.what
walk_view (steps.Stops r) = stops (partial_answer r)

-- a step finds this, unless it finds no memory
abbrev pub FindsWalk : PathStep → Walk → Type 0
FindsWalk p s = walk_view p ≢ stops (fails out_of_memory) → walk_view p ≡ s
