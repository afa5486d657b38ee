-- The errors of a serializer.
pub use Rattle.h5_serialize.specs.declared.fault.SerializeFault.TheVariants.{NoParent, Memory, Write, Failed}
