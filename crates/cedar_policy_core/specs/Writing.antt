-- How expressions and policies are written, and how a text is laid out.
pub use Rattle.cedar_text_printer.specs.Escapes
pub use Rattle.cedar_text_printer.specs.Names
pub use Rattle.cedar_text_printer.specs.Levels
pub use Rattle.cedar_text_printer.specs.Methods
pub use Rattle.cedar_text_printer.specs.Texts
pub use Rattle.cedar_text_printer.specs.Scopes
pub use Rattle.cedar_text_printer.specs.Policies
pub use Rattle.cedar_text_formatter.specs.Formatted
pub use Rattle.cedar_text_formatter.specs.Pieces
pub use Rattle.cedar_text_formatter.specs.Layout
