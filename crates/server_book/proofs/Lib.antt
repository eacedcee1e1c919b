pub mod IaReplies
