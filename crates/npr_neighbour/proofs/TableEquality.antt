-- What `==` answers of tables of neighbours: whether two values are equal, or mean the same.
use Rattle.std.specs.Cmp.{unsigned_Decides}
use Rattle.std.proofs.Common.{refl}
use Rattle.npr_base.proofs.AddressFamilyLaws.{family_equality}
use Rattle.npr_base.specs.Equality.{IsEquality, IsEqualityOf}
use Rattle.npr_base.proofs.EqualityLaws.{one_equality}
use Rattle.npr_base.specs.EnumTable.{◌also◌}
use Rattle.npr_base.proofs.FieldEquality.{one, list, number, kept}
use Rattle.npr_base.proofs.MeaningLaws.{text_equality}
use Rattle.npr_base.proofs.StructLaws.{◌beside◌, struct_equality}
use Rattle.npr_base.specs.Tables.{table_decides}
use Rattle.npr_neighbour.specs.contracts.neighbour_table_config.NeighbourTableConfig.{struct as neighbour_table_config_struct}
use Rattle.npr_neighbour.specs.contracts.neighbour_table_config.NeighbourTableConfigPartialEq.TheImpl as NeighbourTableConfigEq
use Rattle.npr_neighbour.specs.contracts.neighbour_table_stats.NeighbourTableStats.{struct as neighbour_table_stats_struct}
use Rattle.npr_neighbour.specs.contracts.neighbour_table_stats.NeighbourTableStatsPartialEq.TheImpl as NeighbourTableStatsEq
use Rattle.npr_neighbour.specs.contracts.neighbour_table.NeighbourTableHeader.{struct as neighbour_table_header_struct}
use Rattle.npr_neighbour.specs.contracts.neighbour_table.NeighbourTableHeaderPartialEq.TheImpl as NeighbourTableHeaderEq
use Rattle.npr_neighbour.specs.contracts.neighbour_table.NeighbourTableMessageBuffer.{struct as neighbour_table_buffer_struct}
use Rattle.npr_neighbour.specs.contracts.neighbour_table.NeighbourTableMessageBufferPartialEq.TheImpl as NeighbourTableBufferEq
use Rattle.npr_neighbour.specs.NeighbourTableParameter as OfNeighbourTableParameter
use Rattle.npr_neighbour.specs.contracts.neighbour_table_parameter.NeighbourTableParameterPartialEq.TheImpl as NeighbourTableParameterEq
use Rattle.npr_neighbour.specs.NeighbourTableAttribute as OfNeighbourTableAttribute
use Rattle.npr_neighbour.specs.contracts.neighbour_table_attribute.NeighbourTableAttributePartialEq.TheImpl as NeighbourTableAttributeEq

pub neighbour_table_config_equality : IsEquality NeighbourTableConfigEq.ghosts.eq
neighbour_table_config_equality =
    struct_equality neighbour_table_config_struct (λ v. tt) (λ d. refl)
    (unsigned_Decides beside unsigned_Decides beside unsigned_Decides beside unsigned_Decides beside unsigned_Decides beside unsigned_Decides
    beside unsigned_Decides beside unsigned_Decides beside one_equality unsigned_Decides)

pub neighbour_table_stats_equality : IsEquality NeighbourTableStatsEq.ghosts.eq
neighbour_table_stats_equality =
    struct_equality neighbour_table_stats_struct (λ v. tt) (λ d. refl)
    (unsigned_Decides beside unsigned_Decides beside unsigned_Decides beside unsigned_Decides beside unsigned_Decides beside unsigned_Decides
    beside unsigned_Decides beside unsigned_Decides beside unsigned_Decides beside unsigned_Decides beside one_equality unsigned_Decides)

pub neighbour_table_header_equality : IsEquality NeighbourTableHeaderEq.ghosts.eq
neighbour_table_header_equality =
    struct_equality neighbour_table_header_struct (λ v. tt) (λ d. refl)
    (one_equality family_equality)

pub neighbour_table_buffer_equality : IsEquality NeighbourTableBufferEq.ghosts.eq
neighbour_table_buffer_equality =
    struct_equality neighbour_table_buffer_struct (λ v. tt) (λ d. refl)
    (one_equality unsigned_Decides)

pub neighbour_table_parameter_equality : IsEqualityOf OfNeighbourTableParameter.family.meaning NeighbourTableParameterEq.ghosts.eq
neighbour_table_parameter_equality =
    table_decides OfNeighbourTableParameter.table _
    (number also number also number also number also number also number also number also number also number also number also number also number
    also number also number also number also number also number also number also kept also tt)

pub neighbour_table_attribute_equality : IsEqualityOf OfNeighbourTableAttribute.family.meaning NeighbourTableAttributeEq.ghosts.eq
neighbour_table_attribute_equality =
    table_decides OfNeighbourTableAttribute.table _
    (one text_equality also number also number also number also one neighbour_table_config_equality also list neighbour_table_parameter_equality
    also one neighbour_table_stats_equality also number also kept also tt)
