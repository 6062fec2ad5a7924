-- The changes that have come are those before the partition point.
use Rattle.std.proofs.Common.{rules, int_le}
use Rattle.std.proofs.lemmas.List.Sorted.{IsPartitionPoint-from_clause}
use Rattle.zone.proofs.Tables.{parted, passed_from_point}
use Rattle.zone.proofs.table.TableZone.passed.Goals as goal

pub returns : goal.returns
returns c =
    passed_from_point _ _ _ c.partition_point.ensures.bound
    (IsPartitionPoint-from_clause (λ x. int_le x.second c.args.second) _ _ c.partition_point.ensures.partitioned (parted _ c.args.self.now.lawful.apart _) (λ a r q k. search rules))
