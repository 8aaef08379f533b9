-- How the data of a flower filter are read without memory, by their numbers.
use Rattle.std.specs.Prelude.{ℕ}
use Rattle.npr_base.specs.EnumTable.{form_in}
use Rattle.npr_base.specs.declared.attribute_set.At.{At}
use Rattle.npr_base.specs.declared.attribute_set.AttributeSet.TheVariants.{TcFilterFlower as AtFlower}
use Rattle.npr_base.specs.declared.value.Form.{Form}
use Rattle.npr_tc_filters.specs.Flower.{table}
use Rattle.npr_tc_filters.specs.contracts.flower_option.TcFilterFlowerOption.{enum}

-- by the rows of the table
abbrev pub form_at : ℕ → At × Form
form_at number = form_in AtFlower enum.parts table.rows number
