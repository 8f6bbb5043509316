-- What stores of entities are seen as, what their JSON says, and how JSON is written.
pub use Rattle.cedar_layers.specs.Stores
pub use Rattle.cedar_layers.specs.Mapped
pub use Rattle.cedar_hierarchy.specs.Paths
pub use Rattle.cedar_hierarchy.specs.Ancestry
pub use Rattle.cedar_hierarchy.specs.LeftOut
pub use Rattle.cedar_hierarchy.specs.Texts as ClosureTexts
pub use Rattle.cedar_faithful.specs.Held
pub use Rattle.cedar_json_reader.specs.Paths as JsonPaths
pub use Rattle.cedar_json_reader.specs.Refusals
pub use Rattle.cedar_json_reader.specs.Said
pub use Rattle.cedar_json_reader.specs.SaidContexts
pub use Rattle.cedar_json_reader.specs.SaidEntities
pub use Rattle.cedar_json_reader.specs.SaidRequests
pub use Rattle.cedar_json_reader.specs.StatedEntities
pub use Rattle.cedar_json_reader.specs.Evaluated
pub use Rattle.cedar_json_reader.specs.FailedEntities
pub use Rattle.cedar_json_reader.specs.ErrorTexts
pub use Rattle.cedar_json_reader.specs.JsonTexts
pub use Rattle.cedar_json_writer.specs.Trees as JsonTrees
pub use Rattle.cedar_json_writer.specs.Written
pub use Rattle.cedar_json_writer.specs.ReadBack
