-- `QueueLaws` has the laws of queues and of deciding, `CountLaws` those of counts that fall, `FallLaws` those of the loops that lower them.
pub mod QueueLaws
pub mod CountLaws
pub mod FallLaws
pub mod LackingLaws
