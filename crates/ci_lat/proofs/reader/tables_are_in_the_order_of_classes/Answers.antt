use Rattle.ci_lat.proofs.SettingsFit.{latency_of-table_of, delay_of-table_of}
use Rattle.ci_lat.proofs.reader.tables_are_in_the_order_of_classes.Goals as goal

pub returns : goal.returns
returns c = record { latency = latency_of-table_of; delay = delay_of-table_of }
