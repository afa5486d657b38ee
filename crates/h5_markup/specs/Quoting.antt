-- Identifiers of doctypes, independent of where they are in memory.
use Rattle.std.specs.Option.{option_map}
use Rattle.h5_markup.specs.Doctypes as d
use Rattle.h5_markup.specs.declared.doctypes.Quoted.{Quoted}
use Rattle.h5_markup.specs.declared.doctypes.Identifiers.{Identifiers}

abbrev pub quoted_of : Quoted → d.Quoted
quoted_of q = record { identifier = q.identifier.now; rest = q.rest.now }

abbrev pub identifiers_of : Identifiers → d.Identifiers
identifiers_of ids = record { public_id = option_map (λ id. id.now) ids.public_id; system_id = option_map (λ id. id.now) ids.system_id }
