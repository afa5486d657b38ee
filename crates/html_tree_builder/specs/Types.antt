-- Types of the crates below that contracts cite.
pub use Rattle.h5_names.specs.declared.known_name.KnownName.{KnownName}
pub use Rattle.h5_names.specs.declared.qualified.QualName.{QualName}
pub use Rattle.h5_token.specs.declared.fault.BuildFault.{BuildFault}
pub use Rattle.h5_serialize.specs.declared.fault.SerializeFault.{SerializeFault}
pub use Rattle.h5_serialize.specs.declared.openers.Opener.{Opener}
pub use Rattle.h5_serialize.specs.declared.options.SerializeOpts.{SerializeOpts}
pub use Rattle.h5_serialize.specs.declared.options.TraversalScope.{TraversalScope}
pub use Rattle.h5_serialize.specs.declared.options.TraversalScope.TheVariants.{ChildrenOnly, IncludeNode}
pub use Rattle.h5_arena.specs.declared.nodes.NodeId.{NodeId}
pub use Rattle.h5_driver.specs.declared.options.ParseOpts.{ParseOpts}
