-- A forest has the shape of one.
use Rattle.h5_interface.specs.Forest.{Forest, IsForest}
use Rattle.h5_tree.specs.Shape.{IsShaped}

pub has_shape : (f : Forest) → IsForest f → IsShaped f
has_shape f is = record { bounded = is.bounded; one_parent = is.one_parent; inside = is.inside; acyclic = is.acyclic; hosted = is.hosted; top = is.top }
